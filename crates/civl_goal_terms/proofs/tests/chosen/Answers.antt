use Rattle.std.specs.Prelude.{not, ◌&&◌, ◌||◌, if◌then◌else◌}
use Rattle.std.proofs.Common.{◌≡◌, Bool, true, false, refl}
use Rattle.std.proofs.Math.Bool.{and-false}
use Rattle.civl_tree.specs.declared.expr.Sort.TheVariants.{Bool as Truth}
use Rattle.civl_terms.proofs.Growing.{grows_trans}
use Rattle.civl_states.proofs.formula_parts.Saying.{sort_stays, test_stays, test_as}
use Rattle.civl_goal_terms.proofs.tests.chosen.Goals as goal

one_way : (t a b : Bool) → ((t && a) || (b && not t)) ≡ (if t then a else b)
one_way true true b = refl
one_way true false b = and-false b
one_way false a true = refl
one_way false a false = refl

pub without-requires-clause-a : goal.without-requires-clause-a
without-requires-clause-a c = sort_stays _ _ _ Truth c.in_ok-first.ensures.grows c.requires.b

pub without-requires-clause-b : goal.without-requires-clause-b
without-requires-clause-b c = sort_stays _ _ _ Truth c.in_ok-first.ensures.grows c.requires.test

pub either-requires-clause-a : goal.either-requires-clause-a
either-requires-clause-a c = sort_stays _ _ _ Truth c.in_ok-second.ensures.grows c.in_ok-first.ensures.sorted

pub returns-clause-test : goal.returns-clause-test
returns-clause-test c = λ t f g p q r.
    test_as _ c.in_ok-id.id (λ env. (t env && f env) || (g env && not (t env))) (λ env. if t env then f env else g env) (λ env. one_way (t env) (f env) (g env))
    (c.in_ok-id.ensures.test (λ env. t env && f env) (λ env. g env && not (t env))
    (test_stays _ _ _ (λ env. t env && f env) c.in_ok-second.ensures.grows (c.in_ok-first.ensures.test t f p q))
    (c.in_ok-second.ensures.test g t (test_stays _ _ _ g c.in_ok-first.ensures.grows r) (test_stays _ _ _ t c.in_ok-first.ensures.grows p)))

pub returns-clause-grows : goal.returns-clause-grows
returns-clause-grows c = grows_trans _ _ _ c.in_ok-first.ensures.grows (grows_trans _ _ _ c.in_ok-second.ensures.grows c.in_ok-id.ensures.grows)

pub returns-in_err-second-clause-grows : goal.returns-in_err-second-clause-grows
returns-in_err-second-clause-grows c = grows_trans _ _ _ c.in_ok-first.ensures.grows c.in_err-second.ensures.grows

pub returns-in_err-id-clause-grows : goal.returns-in_err-id-clause-grows
returns-in_err-id-clause-grows c = grows_trans _ _ _ c.in_ok-first.ensures.grows (grows_trans _ _ _ c.in_ok-second.ensures.grows c.in_err-id.ensures.grows)
