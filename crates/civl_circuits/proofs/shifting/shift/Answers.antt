use Rattle.civl_circuits.proofs.Words.{one_later, below_at}
use Rattle.std.proofs.Common.{arith, length-drop}
use Rattle.std.proofs.lemmas.List.{take_rest}
use Rattle.civl_circuits.proofs.Moves.{is_moved_none, is_moved_more, is_moved_all, is_early, stage_room}
use Rattle.civl_cnf.proofs.Extending.{extends_trans}
use Rattle.civl_circuits.proofs.shifting.shift.Goals as goal

pub loop-distance-init : goal.loop-distance-init
loop-distance-init c = rw c.in_ok-word.ensures.items (is_moved_none c.args.direction _ _ _ c.requires.a)

pub bounds-b-at : goal.bounds-b-at
bounds-b-at c =
    let early = is_early _ _ _ c.loop-distance.invariant.step c.loop-distance-test.true c.requires.wide in
    omega (arith, early.1, c.requires.size)

pub stage-requires-clause-room : goal.stage-requires-clause-room
stage-requires-clause-room c = rw c.as_slice.ensures.value (omega (arith, stage_room _ _ _ _ c.loop-distance.invariant.made.variables c.loop-distance.invariant.few c.requires.room, c.loop-distance.invariant.made.size))

pub loop-distance-preserved : goal.loop-distance-preserved
loop-distance-preserved c =
    is_moved_more c.args.direction _ _ _ _ _ _ _ c.loop-distance.invariant c.loop-distance-test.true c.requires.wide c.requires.size c.index-b-at.is
    (rw c.as_slice.ensures.value at c.in_ok-word-2.ensures.ok)

pub is_zero-requires-clause-room : goal.is_zero-requires-clause-room
is_zero-requires-clause-room c = rw (take_rest c.args.b.now c.loop-distance.at) (omega (arith, stage_room _ _ _ _ c.loop-distance.invariant.made.variables c.loop-distance.invariant.few c.requires.room, length-drop c.loop-distance.at c.args.b.now, c.requires.size))

pub mask-requires-clause-room : goal.mask-requires-clause-room
mask-requires-clause-room c = rw c.as_slice-2.ensures.value (omega (arith, stage_room _ _ _ _ c.loop-distance.invariant.made.variables c.loop-distance.invariant.few c.requires.room, c.loop-distance.invariant.made.size, (rw (take_rest c.args.b.now c.loop-distance.at) at c.in_ok-none.ensures.ok).variables, length-drop c.loop-distance.at c.args.b.now, c.requires.size))

pub returns-clause-ok : goal.returns-clause-ok
returns-clause-ok c = is_moved_all c.args.direction _ _ _ _ _ _ _ c.loop-distance.invariant c.loop-distance-test.false c.requires.size
    (rw (take_rest c.args.b.now c.loop-distance.at) at c.in_ok-none.ensures.ok) (rw c.as_slice-2.ensures.value at c.in_ok-kept.ensures.ok)

pub stage-requires-clause-one : goal.stage-requires-clause-one
stage-requires-clause-one c = one_later c.loop-distance.invariant.made.extends c.requires.one

pub is_zero-requires-clause-one : goal.is_zero-requires-clause-one
is_zero-requires-clause-one c = one_later c.loop-distance.invariant.made.extends c.requires.one

pub returns-in_err-word-2-clause-extends : goal.returns-in_err-word-2-clause-extends
returns-in_err-word-2-clause-extends c = extends_trans c.loop-distance.invariant.made.extends c.in_err-word-2.ensures.extends

pub returns-in_err-none-clause-extends : goal.returns-in_err-none-clause-extends
returns-in_err-none-clause-extends c = extends_trans c.loop-distance.invariant.made.extends c.in_err-none.ensures.extends

pub returns-in_err-kept-clause-extends : goal.returns-in_err-kept-clause-extends
returns-in_err-kept-clause-extends c = extends_trans c.loop-distance.invariant.made.extends (extends_trans c.in_ok-none.ensures.extends c.in_err-kept.ensures.extends)

pub returns-clause-extends : goal.returns-clause-extends
returns-clause-extends c = extends_trans c.loop-distance.invariant.made.extends (extends_trans c.in_ok-none.ensures.extends c.in_ok-kept.ensures.extends)

pub stage-requires-clause-c : goal.stage-requires-clause-c
stage-requires-clause-c c =
    let early = is_early _ _ _ c.loop-distance.invariant.step c.loop-distance-test.true c.requires.wide in
    below_at _ _ c.requires.b c.loop-distance.invariant.made.extends (omega (arith, early.1, c.requires.size)) c.index-b-at.is
