use Rattle.std.proofs.Common.{◌≡◌, length}
use Rattle.civl_followed.specs.inner.Along.{Waits}
use Rattle.civl_followed.proofs.following.follow_block.Given as goal

abbrev pub invariant-loop-at : goal.invariant-loop-at
invariant-loop-at l = record {
  one_each : length l.walk.lower.shadow.done.items ≡ length l.walk.lower.config.threads;
  waits : Waits l.lower.program l.layer l.moves l.opening l.fn.walk l.walk l.from l.at;
}
