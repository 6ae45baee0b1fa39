use Rattle.std.proofs.Common.{◌<◌, ◌∙◌, length, arith, sym}
use Rattle.civl_blocked.specs.inner.Segments.{over}
use Rattle.civl_blocked.proofs.Picking.{if_some, skips_made, skips_left, goes_made, goes_left}
use Rattle.civl_blocked.proofs.Placing.{inside_as}
use Rattle.civl_blocked.proofs.gathering.runs_own.Goals as goal

pub loop-chosen-preserved-then-chosen-thread : goal.loop-chosen-preserved-then-chosen-thread
loop-chosen-preserved-then-chosen-thread c =
    let h : c.loop-chosen.chosen-index < length c.args.moves.now = omega arith in
    record {
      made = skips_made (over c.args.ground.now) c.args.thread c.args.moves.now c.loop-chosen.chosen-index c.chosen-item.result h c.chosen-item.is c.if-chosen-thread.true c.args.config.now c.loop-chosen.config c.loop-chosen.invariant.made;
      left = λ x o. skips_left (over c.args.ground.now) c.args.thread c.args.moves.now c.loop-chosen.chosen-index c.chosen-item.result h c.chosen-item.is c.if-chosen-thread.true c.loop-chosen.config x (c.loop-chosen.invariant.left x o);
    }

pub loop-chosen-preserved : goal.loop-chosen-preserved
loop-chosen-preserved c =
    let h : c.loop-chosen.chosen-index < length c.args.moves.now = omega arith in
    let step = if_some _ c.in_ok-place.field-0 c.in-Some.place c.in-Some.is c.in_ok-place.ensures.made in
    let inside = inside_as c.args.ground.now c.requires c.places_stay.ensures.inside c.advanced.new.config c.chosen-item.result.thread c.args.thread c.in-Some.place c.if-chosen-thread.false step.1 (sym c.is_inside.ensures ∙ c.if-not-is_inside.false) in
    record {
      made = goes_made (over c.args.ground.now) c.args.thread c.args.moves.now c.loop-chosen.chosen-index c.chosen-item.result h c.chosen-item.is c.if-chosen-thread.false c.args.config.now c.loop-chosen.config c.advanced.new.config c.loop-chosen.invariant.made step.0 inside;
      left = λ x o. goes_left (over c.args.ground.now) c.args.thread c.args.moves.now c.loop-chosen.chosen-index c.chosen-item.result h c.chosen-item.is c.if-chosen-thread.false c.loop-chosen.config c.advanced.new.config x step.0 (c.loop-chosen.invariant.left x o);
    }
