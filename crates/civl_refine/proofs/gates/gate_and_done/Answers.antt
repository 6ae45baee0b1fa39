use Rattle.std.specs.Prelude.{Bool, not, ◌||◌}
use Rattle.civl_tree.specs.declared.expr.Sort.TheVariants.{Bool as Truth}
use Rattle.civl_terms.proofs.Growing.{grows_trans}
use Rattle.civl_states.proofs.formula_parts.Saying.{sort_stays, test_stays}
use Rattle.civl_states.specs.formula_parts.Said.{Env}
use Rattle.civl_refine.proofs.gates.gate_and_done.Goals as goal

pub implied-requires-clause-a : goal.implied-requires-clause-a
implied-requires-clause-a c = sort_stays _ _ _ Truth c.in_ok-gated.ensures.grows c.requires.old_done

pub implied-requires-clause-b : goal.implied-requires-clause-b
implied-requires-clause-b c = sort_stays _ _ _ Truth c.in_ok-gated.ensures.grows c.requires.done

pub returns-in_err-stays-clause-grows : goal.returns-in_err-stays-clause-grows
returns-in_err-stays-clause-grows c = grows_trans _ _ _ c.in_ok-gated.ensures.grows c.in_err-stays.ensures.grows

pub both-requires-clause-a : goal.both-requires-clause-a
both-requires-clause-a c = sort_stays _ _ _ Truth c.in_ok-stays.ensures.grows c.in_ok-gated.ensures.sorted

pub returns-in_err-id-clause-grows : goal.returns-in_err-id-clause-grows
returns-in_err-id-clause-grows c = grows_trans _ _ _ c.in_ok-gated.ensures.grows (grows_trans _ _ _ c.in_ok-stays.ensures.grows c.in_err-id.ensures.grows)

pub returns-clause-test : goal.returns-clause-test
returns-clause-test c = λ o d g p q r.
    let one = c.in_ok-gated.ensures.grows in
    let first : Env → Bool = λ env. o env || g env in
    let second : Env → Bool = λ env. not (o env) || d env in
    c.in_ok-id.ensures.test first second (test_stays _ _ _ first c.in_ok-stays.ensures.grows (c.in_ok-gated.ensures.test o g p r)) (c.in_ok-stays.ensures.test o d (test_stays _ _ _ o one p) (test_stays _ _ _ d one q))

pub returns-clause-grows : goal.returns-clause-grows
returns-clause-grows c = grows_trans _ _ _ c.in_ok-gated.ensures.grows (grows_trans _ _ _ c.in_ok-stays.ensures.grows c.in_ok-id.ensures.grows)
