use Rattle.std.proofs.Common.{take, drop}
use Rattle.civl_meaning.specs.declared.config.Config.{Config}
use Rattle.civl_reduction.specs.interleavings.Runs.{Opens}
use Rattle.civl_reduction.specs.gathering.Gathered.{own}
use Rattle.civl_reduction.specs.gathered.Laws.{by_thread}
use Rattle.civl_blocked.specs.inner.Segments.{over}
use Rattle.civl_blocked.proofs.gathering.runs_own.Given as goal

abbrev pub invariant-loop-chosen : goal.invariant-loop-chosen
invariant-loop-chosen l = record {
  made : Opens (over l.ground) l.thread (own by_thread l.thread (take l.chosen-index l.moves)) l.fn.config l.config;
  left : (x : Config) → Opens (over l.ground) l.thread (own by_thread l.thread l.moves) l.fn.config x → Opens (over l.ground) l.thread (own by_thread l.thread (drop l.chosen-index l.moves)) l.config x;
}
