use Rattle.std.proofs.Common.{arith}
use Rattle.civl_tree.specs.declared.expr.Sort.TheVariants.{Bool as Truth}
use Rattle.civl_terms.proofs.Growing.{grows_trans}
use Rattle.civl_states.proofs.formula_parts.Saying.{sort_stays, test_stays}
use Rattle.civl_goals.specs.Failed.{assumed}
use Rattle.civl_goal_terms.specs.inner.Settings.{frame_at, done_by}
use Rattle.civl_goal_terms.specs.inner.Fails.{fails_of}
use Rattle.civl_goal_terms.proofs.Stepping.{can_stay, says_stay}
use Rattle.civl_goal_terms.proofs.statements.goal_at.Goals as goal

pub fails_at-requires-clause-can : goal.fails_at-requires-clause-can
fails_at-requires-clause-can c = can_stay _ _ c.args.program.now c.args.at.now c.args.setting.now c.in_ok-assumed.ensures.grows c.requires.can

pub both-requires-clause-a : goal.both-requires-clause-a
both-requires-clause-a c = sort_stays _ _ _ Truth c.in_ok-fails.ensures.grows c.in_ok-assumed.ensures.sorted

pub returns-in_err-fails-clause-grows : goal.returns-in_err-fails-clause-grows
returns-in_err-fails-clause-grows c = grows_trans _ _ _ c.in_ok-assumed.ensures.grows c.in_err-fails.ensures.grows

pub returns-in_err-id-clause-grows : goal.returns-in_err-id-clause-grows
returns-in_err-id-clause-grows c = grows_trans _ _ _ c.in_ok-assumed.ensures.grows (grows_trans _ _ _ c.in_ok-fails.ensures.grows c.in_err-id.ensures.grows)

pub returns-clause-grows : goal.returns-clause-grows
returns-clause-grows c = grows_trans _ _ _ c.in_ok-assumed.ensures.grows (grows_trans _ _ _ c.in_ok-fails.ensures.grows c.in_ok-id.ensures.grows)

pub returns-clause-weighs : goal.returns-clause-weighs
returns-clause-weighs c = omega (arith, c.in_ok-assumed.ensures.weighs, c.in_ok-fails.ensures.weighs, c.in_ok-id.ensures.weighs)

pub returns-clause-tells : goal.returns-clause-tells
returns-clause-tells c = λ h s.
    let p = c.args.program.now in
    let a = c.args.at.now in
    let o = c.args.outline.now in
    c.in_ok-id.ensures.test (λ env. assumed p o (h env).store (frame_at a (h env))) (λ env. done_by p a (fails_of p o c.args.goal.now) (h env))
    (test_stays _ _ _ _ c.in_ok-fails.ensures.grows (c.in_ok-assumed.ensures.tells h s)) (c.in_ok-fails.ensures.tells h (says_stay _ _ p a c.args.setting.now c.in_ok-assumed.ensures.grows h s))
