use Rattle.std.specs.Prelude.{slice_get, Contains}
use Rattle.std.proofs.Common.{◌∙◌, List, sym, ap, subst}
use Rattle.civl_tree.proofs.Pairs.{contains_at}
use Rattle.civl_conditions.specs.declared.condition.Condition.{Condition}
use Rattle.civl_certify.proofs.certifying.certify.Goals as goal

pub answer-requires-clause-listed : goal.answer-requires-clause-listed
answer-requires-clause-listed g c = subst (λ (cs : List Condition). Contains cs c.get-condition.result.now) c.in_ok-list.ensures.listed (contains_at _ _ _ c.get-condition.ensures)

pub returns-in-Ok-clause-certified : goal.returns-in-Ok-clause-certified
returns-in-Ok-clause-certified g c = (c.get-condition.result.now, ap (λ (cs : List Condition). slice_get cs c.args.number) (sym c.in_ok-list.ensures.listed) ∙ c.get-condition.ensures, c.in-Ok.ensures.certified)
