use Rattle.std.specs.Prelude.{Bool, not, ◌||◌}
use Rattle.civl_tree.specs.declared.expr.Sort.TheVariants.{Bool as Truth}
use Rattle.civl_meaning.specs.Change.{outs_in}
use Rattle.civl_terms.proofs.Growing.{grows_trans}
use Rattle.civl_conditions.specs.Values.{same_values}
use Rattle.civl_states.specs.formula_parts.Said.{Env}
use Rattle.civl_states.proofs.formula_parts.Saying.{sort_stays, test_stays}
use Rattle.civl_refine.proofs.results.with_outs.Goals as goal

pub implied-requires-clause-a : goal.implied-requires-clause-a
implied-requires-clause-a c = sort_stays _ _ _ Truth c.in_ok-same.ensures.grows c.requires.asked

pub returns-in_err-kept-clause-grows : goal.returns-in_err-kept-clause-grows
returns-in_err-kept-clause-grows c = grows_trans _ _ _ c.in_ok-same.ensures.grows c.in_err-kept.ensures.grows

pub both-requires-clause-a : goal.both-requires-clause-a
both-requires-clause-a c = sort_stays _ _ _ Truth (grows_trans _ _ _ c.in_ok-same.ensures.grows c.in_ok-kept.ensures.grows) c.requires.test

pub returns-in_err-id-clause-grows : goal.returns-in_err-id-clause-grows
returns-in_err-id-clause-grows c = grows_trans _ _ _ c.in_ok-same.ensures.grows (grows_trans _ _ _ c.in_ok-kept.ensures.grows c.in_err-id.ensures.grows)

pub returns-clause-test : goal.returns-clause-test
returns-clause-test c = λ f g v w s t x y.
    let one = c.in_ok-same.ensures.grows in
    let two = grows_trans _ _ _ one c.in_ok-kept.ensures.grows in
    let h : Env → Bool = λ env. same_values (outs_in c.args.proc.now (v env)) (w env) in
    c.in_ok-id.ensures.test f (λ env. not (g env) || h env) (test_stays _ _ _ f two s) (c.in_ok-kept.ensures.test g h (test_stays _ _ _ g one t) (c.in_ok-same.ensures.test v w x y))

pub returns-clause-grows : goal.returns-clause-grows
returns-clause-grows c = grows_trans _ _ _ c.in_ok-same.ensures.grows (grows_trans _ _ _ c.in_ok-kept.ensures.grows c.in_ok-id.ensures.grows)
