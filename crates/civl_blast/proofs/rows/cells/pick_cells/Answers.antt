use Rattle.std.proofs.Common.{arith, get_or, length, ◌≡◌}
use Rattle.civl_blast.proofs.rows.Solid.{all_at}
use Rattle.civl_blast.proofs.rows.Made.{within_some, within_sorted}
use Rattle.civl_blast.proofs.rows.Picks.{pick_plain, pick_step}
use Rattle.civl_blast.proofs.rows.cells.pick_cells.Goals as goal

pub pick-requires-clause-c : goal.pick-requires-clause-c
pick-requires-clause-c c = omega (arith, within_some _ _ _ c.requires.test, c.loop-i.invariant.calm.grows.longer)

pub pick-requires-clause-a : goal.pick-requires-clause-a
pick-requires-clause-a c = omega (arith, within_sorted _ _ _ (c.requires.a c.loop-i.i (omega arith)) c.requires.plain, c.loop-i.invariant.calm.grows.longer)

pub pick-requires-clause-b : goal.pick-requires-clause-b
pick-requires-clause-b c = omega (arith, within_sorted _ _ _ (c.requires.b c.loop-i.i (omega arith)) c.requires.plain, c.loop-i.invariant.calm.grows.longer)

pub pick-requires-clause-plain : goal.pick-requires-clause-plain
pick-requires-clause-plain c =
    pick_plain _ _ _ _ c.loop-i.invariant.calm.grows c.requires.test (c.requires.a c.loop-i.i (omega arith)) (c.requires.b c.loop-i.i (omega arith)) c.requires.plain

pub loop-i-preserved : goal.loop-i-preserved
loop-i-preserved c =
    let i = c.loop-i.i in
    let a = c.args.a.now in
    let b = c.args.b.now in
    pick_step (λ k. get_or a k 0) (λ k. get_or b k 0) c.args.c i _ _ _ c.requires.test (c.requires.a i (omega arith)) (c.requires.b i (omega arith)) c.requires.plain
    (λ u h. (h.0, all_at u a i 0 h.1 (omega arith), all_at u b i 0 h.2 (omega arith)))
    c.loop-i.invariant c.in_ok-id.ensures.made c.in_ok-push.ensures.items

pub returns-clause-made : goal.returns-clause-made
returns-clause-made c =
    let e : c.loop-i.i ≡ length c.args.a.now = omega arith in
    rw (c.from_vec.ensures, ← e) c.loop-i.invariant
