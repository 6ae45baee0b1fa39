use Rattle.std.proofs.Common.{arith, get_or, length, ◌≡◌, ◌*◌, ◌+◌, ◌/◌}
use Rattle.civl_blast.proofs.rows.Solid.{all_at}
use Rattle.civl_blast.proofs.rows.Made.{within_some, within_sorted}
use Rattle.civl_blast.proofs.rows.Picks.{pick_plain, pick_step}
use Rattle.civl_blast.proofs.rows.read.halve.Goals as goal

pub pick-requires-clause-c : goal.pick-requires-clause-c
pick-requires-clause-c c = omega (arith, within_some _ _ _ c.requires.test, c.loop-i.invariant.calm.grows.longer)

pub pick-requires-clause-a : goal.pick-requires-clause-a
pick-requires-clause-a c = omega (arith, within_sorted _ _ _ (c.requires.sorted (2 * c.loop-i.i + 1) (omega arith)) c.requires.plain, c.loop-i.invariant.calm.grows.longer)

pub pick-requires-clause-b : goal.pick-requires-clause-b
pick-requires-clause-b c = omega (arith, within_sorted _ _ _ (c.requires.sorted (2 * c.loop-i.i) (omega arith)) c.requires.plain, c.loop-i.invariant.calm.grows.longer)

pub pick-requires-clause-plain : goal.pick-requires-clause-plain
pick-requires-clause-plain c =
    pick_plain _ _ _ _ c.loop-i.invariant.calm.grows c.requires.test (c.requires.sorted (2 * c.loop-i.i + 1) (omega arith)) (c.requires.sorted (2 * c.loop-i.i) (omega arith)) c.requires.plain

pub loop-i-preserved : goal.loop-i-preserved
loop-i-preserved c =
    let i = c.loop-i.i in
    let cells = c.args.cells.now in
    pick_step (λ k. get_or cells (2 * k + 1) 0) (λ k. get_or cells (2 * k) 0) c.args.test i _ _ _ c.requires.test (c.requires.sorted (2 * i + 1) (omega arith)) (c.requires.sorted (2 * i) (omega arith)) c.requires.plain
    (λ u h. (h.1, all_at u cells (2 * i + 1) 0 h.0 (omega arith), all_at u cells (2 * i) 0 h.0 (omega arith)))
    c.loop-i.invariant c.in_ok-id.ensures.made c.in_ok-push.ensures.items

pub returns-clause-made : goal.returns-clause-made
returns-clause-made c =
    let e : c.loop-i.i ≡ length c.args.cells.now / 2 = omega arith in
    rw (← e) c.loop-i.invariant
