use Rattle.std.proofs.Common.{◌∙◌, sym, ap}
use Rattle.civl_cnf.specs.ClauseSet.{assignment}
use Rattle.civl_cnf.proofs.Satisfying.{all_true, Satisfies-from_all_true, all_true-from_Satisfies}
use Rattle.civl_cnf.proofs.evaluation.truth.Goals as goal

pub returns : goal.returns
returns c =
    let v = assignment c.args.bits.now in
    let is = c.all_are_true.ensures ∙ ap (all_true v) c.clauses.ensures.is in
    (λ t. Satisfies-from_all_true v c.args.cnf.now.clauses (sym is ∙ t), λ h. is ∙ all_true-from_Satisfies v c.args.cnf.now.clauses h)
