use Rattle.std.proofs.Common.{◌≡◌, ◌++◌, drop, take}
use Rattle.civl_meaning.specs.declared.config.Config.{Config}
use Rattle.civl_reduction.specs.interleavings.Runs.{Opens}
use Rattle.civl_reduction.specs.gathering.Gathered.{own}
use Rattle.civl_reduction.specs.gathered.Laws.{by_thread}
use Rattle.civl_blocked.specs.inner.Segments.{over}
use Rattle.civl_blocked.specs.inner.Turning.{IsBeside}
use Rattle.civl_blocked.proofs.joining.join_own.Given as goal

abbrev pub invariant-loop-chosen : goal.invariant-loop-chosen
invariant-loop-chosen l = record {
  end : Config;
  left : Opens (over l.ground) l.thread (own by_thread l.thread (drop l.chosen-index l.moves)) l.beside.config end;
  opens : Opens (over l.ground) l.thread (own by_thread l.thread (take l.chosen-index l.moves)) l.fn.beside.config l.beside.config;
  done : l.done.items ≡ l.fn.done.items ++ own by_thread l.thread (take l.chosen-index l.moves);
  beside : IsBeside l.ground l.done.items l.beside;
}
