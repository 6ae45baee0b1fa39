use Rattle.std.specs.Prelude.{◌&&◌}
use Rattle.std.proofs.Common.{◌++◌, arith}
use Rattle.civl_tree.specs.declared.expr.Sort.TheVariants.{Bool as Truth}
use Rattle.civl_meaning.specs.Permissions.{pairwise_disjoint}
use Rattle.civl_terms.proofs.Growing.{grows_trans}
use Rattle.civl_conditions.specs.Permissions.{in_store, of_held}
use Rattle.civl_states.proofs.formula_parts.Saying.{sort_stays, test_stays, test_as}
use Rattle.civl_states.proofs.formula_parts.Listing.{sorts_stay, said_stay}
use Rattle.civl_goals.specs.Outlines.{invariant_holds, note_holds}
use Rattle.civl_goal_terms.specs.inner.Others.{other_frame, loses_note, violated_beside}
use Rattle.civl_goal_terms.specs.inner.Settings.{frame_at, done_by}
use Rattle.civl_goal_terms.proofs.Assuming.{can_stay, says_stays, owned_is}
use Rattle.civl_goal_terms.proofs.OthersBeside.{beside_is}
use Rattle.civl_goal_terms.proofs.others.goal_beside.Goals as goal

pub both_apart-requires-clause-can : goal.both_apart-requires-clause-can
both_apart-requires-clause-can c = can_stay _ _ _ _ _ c.in_ok-said.ensures.grows c.requires.can

pub both_apart-requires-clause-locals : goal.both_apart-requires-clause-locals
both_apart-requires-clause-locals c = sorts_stay _ _ _ _ c.in_ok-said.ensures.grows c.requires.locals

pub both-requires-clause-a : goal.both-requires-clause-a
both-requires-clause-a c = sort_stays _ _ _ Truth c.in_ok-apart.ensures.grows c.in_ok-said.ensures.sorted

pub loses_note-requires-clause-can : goal.loses_note-requires-clause-can
loses_note-requires-clause-can c = can_stay _ _ _ _ _ (grows_trans _ _ _ c.in_ok-said.ensures.grows (grows_trans _ _ _ c.in_ok-apart.ensures.grows c.in_ok-assumed.ensures.grows)) c.requires.can

pub loses_note-requires-clause-locals : goal.loses_note-requires-clause-locals
loses_note-requires-clause-locals c = sorts_stay _ _ _ _ (grows_trans _ _ _ c.in_ok-said.ensures.grows (grows_trans _ _ _ c.in_ok-apart.ensures.grows c.in_ok-assumed.ensures.grows)) c.requires.locals

pub both-requires-2-clause-a : goal.both-requires-2-clause-a
both-requires-2-clause-a c = sort_stays _ _ _ Truth c.in_ok-lost.ensures.grows c.in_ok-assumed.ensures.sorted

pub returns-clause-tells : goal.returns-clause-tells
returns-clause-tells c = λ h l says said.
    let p = c.args.program.now in
    let o = c.args.outline.now in
    let at = c.args.at.now in
    let other = c.args.other.now in
    let held = c.args.held.now in
    let more = c.args.other_held.now in
    let rules = c.requires.layered.rules in
    let u = c.in_ok-said.ensures.grows in
    let uvw = grows_trans _ _ _ u (grows_trans _ _ _ c.in_ok-apart.ensures.grows c.in_ok-assumed.ensures.grows) in
    test_as _ c.in_ok-id.id _ (λ env. violated_beside p o at other (h env) (l env))
    (λ env. beside_is p o at other (h env) (l env) (of_held held (h env).locals) (of_held more (l env)) (owned_is p rules at.root at.proc.now c.requires.at.proc at.number held c.requires.held (h env).locals)
    (owned_is p rules other.root other.proc.now c.requires.other other.number more c.requires.other_held (l env)))
    (c.in_ok-id.ensures.test _ (λ env. done_by p at (loses_note p o (other_frame other (l env))) (h env))
    (test_stays _ _ _ _ c.in_ok-lost.ensures.grows
    (c.in_ok-assumed.ensures.test
    (λ env. (invariant_holds p o (h env).store && note_holds p o (h env).store (frame_at at (h env))) && note_holds p o (h env).store (other_frame other (l env)))
    (λ env. pairwise_disjoint (in_store p (h env).store ++ (of_held held (h env).locals ++ of_held more (l env)))) (test_stays _ _ _ _ c.in_ok-apart.ensures.grows (c.in_ok-said.ensures.tells h l says said))
    (c.in_ok-apart.ensures.tells h l (says_stays _ _ _ _ _ h u says) (said_stay _ _ _ _ _ u said))))
    (c.in_ok-lost.ensures.tells h l (says_stays _ _ _ _ _ h uvw says) (said_stay _ _ _ _ _ uvw said)))

pub returns-clause-weighs : goal.returns-clause-weighs
returns-clause-weighs c = omega (arith, c.in_ok-said.ensures.weighs, c.in_ok-apart.ensures.weighs, c.in_ok-assumed.ensures.weighs, c.in_ok-lost.ensures.weighs, c.in_ok-id.ensures.weighs)

pub returns-clause-grows : goal.returns-clause-grows
returns-clause-grows c =
    grows_trans _ _ _ c.in_ok-said.ensures.grows (grows_trans _ _ _ c.in_ok-apart.ensures.grows (grows_trans _ _ _ c.in_ok-assumed.ensures.grows (grows_trans _ _ _ c.in_ok-lost.ensures.grows c.in_ok-id.ensures.grows)))

pub returns-in_err-apart-clause-grows : goal.returns-in_err-apart-clause-grows
returns-in_err-apart-clause-grows c = grows_trans _ _ _ c.in_ok-said.ensures.grows c.in_err-apart.ensures.grows

pub returns-in_err-assumed-clause-grows : goal.returns-in_err-assumed-clause-grows
returns-in_err-assumed-clause-grows c = grows_trans _ _ _ c.in_ok-said.ensures.grows (grows_trans _ _ _ c.in_ok-apart.ensures.grows c.in_err-assumed.ensures.grows)

pub returns-in_err-lost-clause-grows : goal.returns-in_err-lost-clause-grows
returns-in_err-lost-clause-grows c =
    grows_trans _ _ _ c.in_ok-said.ensures.grows (grows_trans _ _ _ c.in_ok-apart.ensures.grows (grows_trans _ _ _ c.in_ok-assumed.ensures.grows c.in_err-lost.ensures.grows))

pub returns-in_err-id-clause-grows : goal.returns-in_err-id-clause-grows
returns-in_err-id-clause-grows c =
    grows_trans _ _ _ c.in_ok-said.ensures.grows (grows_trans _ _ _ c.in_ok-apart.ensures.grows (grows_trans _ _ _ c.in_ok-assumed.ensures.grows (grows_trans _ _ _ c.in_ok-lost.ensures.grows c.in_err-id.ensures.grows)))
