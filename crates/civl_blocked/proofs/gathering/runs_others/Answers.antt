use Rattle.std.proofs.Common.{◌<◌, length, arith}
use Rattle.civl_blocked.specs.inner.Segments.{over}
use Rattle.civl_blocked.proofs.Picking.{others_skips_made, others_skips_left, others_goes_made, others_goes_left}
use Rattle.civl_blocked.proofs.gathering.runs_others.Goals as goal

pub loop-chosen-preserved-then-chosen-thread : goal.loop-chosen-preserved-then-chosen-thread
loop-chosen-preserved-then-chosen-thread c =
    let h : c.loop-chosen.chosen-index < length c.args.moves.now = omega arith in
    record {
      made = others_skips_made (over c.args.ground.now) c.args.thread c.args.moves.now c.loop-chosen.chosen-index c.chosen-item.result h c.chosen-item.is c.if-chosen-thread.true c.args.config.now c.loop-chosen.config c.loop-chosen.invariant.made;
      left = λ x o. others_skips_left (over c.args.ground.now) c.args.thread c.args.moves.now c.loop-chosen.chosen-index c.chosen-item.result h c.chosen-item.is c.if-chosen-thread.true c.loop-chosen.config x (c.loop-chosen.invariant.left x o);
    }

pub loop-chosen-preserved : goal.loop-chosen-preserved
loop-chosen-preserved c =
    let h : c.loop-chosen.chosen-index < length c.args.moves.now = omega arith in
    let step = c.in_ok-moved.ensures.made c.if-not-branch.false in
    record {
      made = others_goes_made (over c.args.ground.now) c.args.thread c.args.moves.now c.loop-chosen.chosen-index c.chosen-item.result h c.chosen-item.is c.if-chosen-thread.false c.args.config.now c.loop-chosen.config c.moved.new.config c.loop-chosen.invariant.made step;
      left = λ x o. others_goes_left (over c.args.ground.now) c.args.thread c.args.moves.now c.loop-chosen.chosen-index c.chosen-item.result h c.chosen-item.is c.if-chosen-thread.false c.loop-chosen.config c.moved.new.config x step (c.loop-chosen.invariant.left x o);
    }
