use Rattle.std.proofs.Common.{arith}
use Rattle.civl_tree.specs.declared.expr.Sort.TheVariants.{Bool as Truth}
use Rattle.civl_tree.specs.rules.Scopes.{global_scope}
use Rattle.civl_terms.proofs.Growing.{grows_trans}
use Rattle.civl_conditions.specs.Invariants.{meets_init}
use Rattle.civl_states.proofs.formula_parts.Saying.{sort_stays, test_stays}
use Rattle.civl_states.proofs.formula_parts.Listing.{sorts_stay, said_stay}
use Rattle.civl_states.proofs.Weighing.{weighs_some}
use Rattle.civl_goals.specs.Outlines.{invariant_holds}
use Rattle.civl_goal_terms.proofs.begins.invariant_at.Goals as goal

pub holds_at-requires-clause-globals : goal.holds_at-requires-clause-globals
holds_at-requires-clause-globals c = sorts_stay _ _ _ _ c.in_ok-initial.ensures.grows c.requires.globals

pub without-requires-clause-a : goal.without-requires-clause-a
without-requires-clause-a c = sort_stays _ _ _ Truth c.in_ok-holds.ensures.grows c.in_ok-initial.ensures.sorted

pub returns-clause-tells : goal.returns-clause-tells
returns-clause-tells c = λ g s.
    let p = c.args.program.now in
    let o = c.args.outline.now in
    c.in_ok-id.ensures.test (λ env. meets_init p (g env)) (λ env. invariant_holds p o (g env))
    (test_stays _ _ _ (λ env. meets_init p (g env)) c.in_ok-holds.ensures.grows (c.in_ok-initial.ensures.tells g s))
    (c.in_ok-holds.ensures.tells g (said_stay _ _ _ _ _ c.in_ok-initial.ensures.grows s))

pub returns-clause-weighs : goal.returns-clause-weighs
returns-clause-weighs c =
    let p = c.args.program.now in
    omega (arith, c.in_ok-initial.ensures.weighs, c.in_ok-holds.ensures.weighs, c.in_ok-id.ensures.weighs, weighs_some (global_scope p) p.init)

pub returns-clause-grows : goal.returns-clause-grows
returns-clause-grows c = grows_trans _ _ _ c.in_ok-initial.ensures.grows (grows_trans _ _ _ c.in_ok-holds.ensures.grows c.in_ok-id.ensures.grows)

pub returns-in_err-holds-clause-grows : goal.returns-in_err-holds-clause-grows
returns-in_err-holds-clause-grows c = grows_trans _ _ _ c.in_ok-initial.ensures.grows c.in_err-holds.ensures.grows

pub returns-in_err-id-clause-grows : goal.returns-in_err-id-clause-grows
returns-in_err-id-clause-grows c = grows_trans _ _ _ c.in_ok-initial.ensures.grows (grows_trans _ _ _ c.in_ok-holds.ensures.grows c.in_err-id.ensures.grows)
