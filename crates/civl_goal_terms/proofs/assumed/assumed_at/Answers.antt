use Rattle.std.specs.Prelude.{◌&&◌}
use Rattle.std.proofs.Common.{◌++◌, arith}
use Rattle.civl_tree.specs.declared.expr.Sort.TheVariants.{Bool as Truth}
use Rattle.civl_meaning.specs.Permissions.{pairwise_disjoint}
use Rattle.civl_terms.proofs.Growing.{grows_trans}
use Rattle.civl_conditions.specs.Permissions.{in_store, of_held}
use Rattle.civl_states.proofs.formula_parts.Saying.{sort_stays, test_stays, test_as}
use Rattle.civl_goals.specs.Outlines.{invariant_holds, note_holds}
use Rattle.civl_goal_terms.specs.inner.Settings.{frame_at}
use Rattle.civl_goal_terms.proofs.Assuming.{can_stay, says_stays, owned_is, assumed_is}
use Rattle.civl_goal_terms.proofs.assumed.assumed_at.Goals as goal

pub own_apart-requires-clause-can : goal.own_apart-requires-clause-can
own_apart-requires-clause-can c = can_stay _ _ _ _ _ c.in_ok-said.ensures.grows c.requires.can

pub both-requires-clause-a : goal.both-requires-clause-a
both-requires-clause-a c = sort_stays _ _ _ Truth c.in_ok-apart.ensures.grows c.in_ok-said.ensures.sorted

pub returns-clause-tells : goal.returns-clause-tells
returns-clause-tells c = λ h says.
    let p = c.args.program.now in
    let o = c.args.outline.now in
    let at = c.args.at.now in
    let held = c.args.held.now in
    let u = c.in_ok-said.ensures.grows in
    test_as _ c.in_ok-id.id _ _
    (λ env. assumed_is p o (h env).store at.root at.number (h env).locals (of_held held (h env).locals) (owned_is p c.requires.layered.rules at.root at.proc.now c.requires.at.proc at.number held c.requires.held (h env).locals))
    (c.in_ok-id.ensures.test (λ env. invariant_holds p o (h env).store && note_holds p o (h env).store (frame_at at (h env))) (λ env. pairwise_disjoint (in_store p (h env).store ++ of_held held (h env).locals))
    (test_stays _ _ _ _ c.in_ok-apart.ensures.grows (c.in_ok-said.ensures.tells h says)) (c.in_ok-apart.ensures.tells h (says_stays _ _ _ _ _ h u says)))

pub returns-clause-weighs : goal.returns-clause-weighs
returns-clause-weighs c = omega (arith, c.in_ok-said.ensures.weighs, c.in_ok-apart.ensures.weighs, c.in_ok-id.ensures.weighs)

pub returns-clause-grows : goal.returns-clause-grows
returns-clause-grows c = grows_trans _ _ _ c.in_ok-said.ensures.grows (grows_trans _ _ _ c.in_ok-apart.ensures.grows c.in_ok-id.ensures.grows)

pub returns-in_err-apart-clause-grows : goal.returns-in_err-apart-clause-grows
returns-in_err-apart-clause-grows c = grows_trans _ _ _ c.in_ok-said.ensures.grows c.in_err-apart.ensures.grows

pub returns-in_err-id-clause-grows : goal.returns-in_err-id-clause-grows
returns-in_err-id-clause-grows c = grows_trans _ _ _ c.in_ok-said.ensures.grows (grows_trans _ _ _ c.in_ok-apart.ensures.grows c.in_err-id.ensures.grows)
