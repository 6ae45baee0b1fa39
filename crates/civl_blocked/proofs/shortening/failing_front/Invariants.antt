use Rattle.std.proofs.Common.{◌≤◌, drop, length, All}
use Rattle.civl_reduction.specs.interleavings.Runs.{Opens}
use Rattle.civl_meaning.specs.Failing.{IsMove}
use Rattle.civl_reduction.specs.gathering.Gathered.{own, FailsAlong, FailsBehind}
use Rattle.civl_reduction.specs.gathered.Laws.{by_thread}
use Rattle.civl_blocked.specs.inner.Segments.{over}
use Rattle.civl_blocked.proofs.shortening.failing_front.Given as goal

abbrev pub invariant-loop-chosen : goal.invariant-loop-chosen
invariant-loop-chosen l = record {
  opens : Opens (over l.ground) l.thread l.front.items l.from l.config;
  left : FailsAlong (over l.ground) l.thread (own by_thread l.thread l.moves) l.from → FailsBehind (over l.ground) l.thread (own by_thread l.thread (drop l.chosen-index l.moves)) l.config;
  short : length l.front.items ≤ l.chosen-index;
  are_moves : All IsMove l.moves → All IsMove l.front.items;
}
