use Rattle.std.specs.Prelude.{All, IsTrue, map, List}
use Rattle.std.proofs.Common.{◌∙◌, sym, subst}
use Rattle.civl_tree.specs.declared.expr.Sort.{Sort}
use Rattle.civl_firing.specs.values.Values.{is_sort, zero_of}
use Rattle.civl_states.specs.formula_parts.Lists.{AreSaid}
use Rattle.civl_states.proofs.Laying.{inner_zeros}
use Rattle.civl_goal_terms.proofs.frames.inner_zeros.Goals as goal

pub zeros-requires : goal.zeros-requires
zeros-requires c = subst (λ (ss : List Sort). All (λ s. IsTrue (is_sort s)) ss) (sym (c.as_slice.ensures.value ∙ c.in_ok-sorts.ensures)) c.requires

pub returns-clause-said : goal.returns-clause-said
returns-clause-said c =
    let n = c.zeros.new.terms in
    let s = subst (λ (ss : List Sort). AreSaid n c.in_ok-ids.ids ss (λ env. map zero_of ss)) (c.as_slice.ensures.value ∙ c.in_ok-sorts.ensures) c.in_ok-ids.ensures.said in
    record { sorted = s.sorted; are = λ env f. s.are env f ∙ inner_zeros c.args.proc.now }
