use Rattle.std.proofs.Common.{◌≡◌, ◌++◌, drop}
use Rattle.civl_reduction.specs.gathering.Gathered.{others}
use Rattle.civl_reduction.specs.gathered.Laws.{by_thread}
use Rattle.civl_blocked.proofs.turning.put_back.Given as goal

abbrev pub invariant-loop-at : goal.invariant-loop-at
invariant-loop-at l = l.rest.items ≡ others by_thread l.thread (drop l.at l.moves) ++ l.fn.rest.items
