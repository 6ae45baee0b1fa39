use Rattle.std.proofs.Common.{take}
use Rattle.civl_reduction.specs.interleavings.Runs.{SystemRuns}
use Rattle.civl_blocked.specs.inner.Segments.{over}
use Rattle.civl_blocked.proofs.leading.runs_all.Given as goal

abbrev pub invariant-loop-chosen : goal.invariant-loop-chosen
invariant-loop-chosen l = SystemRuns (over l.ground).steps (take l.chosen-index l.moves) l.fn.config l.config
