use Rattle.std.proofs.Common.{◌<◌, length, take, arith, sym, subst}
use Rattle.civl_reduction.specs.interleavings.Runs.{SystemRuns}
use Rattle.civl_blocked.specs.inner.Segments.{over}
use Rattle.civl_blocked.proofs.Picking.{take_is}
use Rattle.civl_blocked.proofs.Strides.{run_more}
use Rattle.civl_blocked.proofs.leading.runs_all.Goals as goal

pub loop-chosen-preserved : goal.loop-chosen-preserved
loop-chosen-preserved c =
    let S = over c.args.ground.now in
    let i = c.loop-chosen.chosen-index in
    let h : i < length c.args.moves.now = omega arith in
    subst (λ l. SystemRuns S.steps l c.args.config.now c.moved.new.config) (sym (take_is c.args.moves.now i c.chosen-item.result h c.chosen-item.is))
    (run_more S (take i c.args.moves.now) c.chosen-item.result c.args.config.now c.loop-chosen.config c.moved.new.config c.loop-chosen.invariant (c.in_ok-moved.ensures.made c.if-not-branch.false))
