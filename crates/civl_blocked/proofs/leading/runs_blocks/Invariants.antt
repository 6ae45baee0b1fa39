use Rattle.std.proofs.Common.{take, None}
use Rattle.civl_reduction.specs.interleavings.Runs.{BlocksTo}
use Rattle.civl_blocked.specs.inner.Segments.{over}
use Rattle.civl_blocked.proofs.leading.runs_blocks.Given as goal

abbrev pub invariant-loop-chosen : goal.invariant-loop-chosen
invariant-loop-chosen l = BlocksTo (over l.ground) None (take l.chosen-index l.blocks) l.fn.config l.owner l.config
