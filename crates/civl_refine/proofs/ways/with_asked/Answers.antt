use Rattle.std.specs.Prelude.{Option, not, ◌||◌, ℕ}
use Rattle.std.proofs.Common.{subst}
use Rattle.civl_tree.specs.declared.expr.Sort.TheVariants.{Bool as Truth}
use Rattle.civl_terms.proofs.Growing.{grows_trans}
use Rattle.civl_states.proofs.formula_parts.Saying.{sort_stays, test_stays}
use Rattle.civl_refine.specs.Judging.{Asks}
use Rattle.civl_refine.proofs.ways.with_asked.Goals as goal

pub both-requires-clause-a : goal.both-requires-clause-a
both-requires-clause-a c = sort_stays _ _ _ Truth c.in_ok-kept-in-Some.ensures.grows c.requires.test

pub returns-in_err-id-in-Some-clause-grows : goal.returns-in_err-id-in-Some-clause-grows
returns-in_err-id-in-Some-clause-grows c = grows_trans _ _ _ c.in_ok-kept-in-Some.ensures.grows c.in_err-id-in-Some.ensures.grows

pub returns-in_ok-id-in-Some-clause-test : goal.returns-in_ok-id-in-Some-clause-test
returns-in_ok-id-in-Some-clause-test c = λ f g h s t u.
    let a = subst (λ (o : Option ℕ). Asks c.args.terms.now o h) c.in-Some.is u in
    c.in_ok-id-in-Some.ensures.test f (λ env. not (g env) || h env) (test_stays _ _ _ f c.in_ok-kept-in-Some.ensures.grows s) (c.in_ok-kept-in-Some.ensures.test g h t a)

pub returns-in_ok-id-in-Some-clause-grows : goal.returns-in_ok-id-in-Some-clause-grows
returns-in_ok-id-in-Some-clause-grows c = grows_trans _ _ _ c.in_ok-kept-in-Some.ensures.grows c.in_ok-id-in-Some.ensures.grows
