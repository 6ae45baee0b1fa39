use Rattle.std.proofs.Common.{take, drop}
use Rattle.civl_meaning.specs.declared.config.Config.{Config}
use Rattle.civl_reduction.specs.interleavings.Runs.{SystemRuns}
use Rattle.civl_reduction.specs.gathering.Gathered.{others}
use Rattle.civl_reduction.specs.gathered.Laws.{by_thread}
use Rattle.civl_blocked.specs.inner.Segments.{over}
use Rattle.civl_blocked.proofs.gathering.runs_others.Given as goal

abbrev pub invariant-loop-chosen : goal.invariant-loop-chosen
invariant-loop-chosen l = record {
  made : SystemRuns (over l.ground).steps (others by_thread l.thread (take l.chosen-index l.moves)) l.fn.config l.config;
  left : (x : Config) → SystemRuns (over l.ground).steps (others by_thread l.thread l.moves) l.fn.config x → SystemRuns (over l.ground).steps (others by_thread l.thread (drop l.chosen-index l.moves)) l.config x;
}
