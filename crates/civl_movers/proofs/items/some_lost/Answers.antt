use Rattle.std.proofs.Common.{◌&&◌}
use Rattle.civl_tree.specs.declared.expr.Sort.TheVariants.{Bool as Truth}
use Rattle.civl_terms.proofs.Growing.{grows_trans}
use Rattle.civl_meaning.specs.Permissions.{pairwise_disjoint}
use Rattle.civl_conditions.specs.Permissions.{included}
use Rattle.civl_states.proofs.formula_parts.Saying.{sort_stays, test_stays}
use Rattle.civl_movers.proofs.items.some_lost.Goals as goal

pub both-requires-clause-a : goal.both-requires-clause-a
both-requires-clause-a c = sort_stays _ _ _ Truth c.in_ok-among.ensures.grows c.requires.going.apart

pub returns-clause-test : goal.returns-clause-test
returns-clause-test c = λ f g h k.
    c.in_ok-id.ensures.test (λ env. pairwise_disjoint (f env) && included (f env) (g env))
    (c.in_ok-kept.ensures.test (λ env. pairwise_disjoint (f env)) (λ env. included (f env) (g env))
    (test_stays _ _ _ (λ env. pairwise_disjoint (f env)) c.in_ok-among.ensures.grows h.apart) (c.in_ok-among.ensures.test f g h k))

pub returns-clause-grows : goal.returns-clause-grows
returns-clause-grows c = grows_trans _ _ _ c.in_ok-among.ensures.grows (grows_trans _ _ _ c.in_ok-kept.ensures.grows c.in_ok-id.ensures.grows)

pub returns-in_err-kept-clause-grows : goal.returns-in_err-kept-clause-grows
returns-in_err-kept-clause-grows c = grows_trans _ _ _ c.in_ok-among.ensures.grows c.in_err-kept.ensures.grows

pub returns-in_err-id-clause-grows : goal.returns-in_err-id-clause-grows
returns-in_err-id-clause-grows c = grows_trans _ _ _ c.in_ok-among.ensures.grows (grows_trans _ _ _ c.in_ok-kept.ensures.grows c.in_err-id.ensures.grows)
