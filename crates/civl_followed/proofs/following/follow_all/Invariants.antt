use Rattle.std.proofs.Common.{◌≡◌, ◌-◌, ◌≤◌, length, drop}
use Rattle.civl_firing.specs.declared.store.Store.{Store}
use Rattle.civl_followed.specs.inner.Along.{Grounds, AlongAt}
use Rattle.civl_followed.proofs.following.follow_all.Given as goal

abbrev pub invariant-loop-at : goal.invariant-loop-at
invariant-loop-at l = record {
  within : l.at ≤ length l.moves;
  one_each : length l.walk.lower.shadow.done.items ≡ length l.walk.lower.config.threads;
  follows : (store : Store) → Grounds l.lower.program l.layer store → AlongAt l.lower.program l.layer store l.moves l.fn.walk.lower l.fn.walk.upper l.fn.walk.followed.items l.moves
      → AlongAt l.lower.program l.layer store l.moves l.walk.lower l.walk.upper l.walk.followed.items (drop l.at l.moves);
}

abbrev pub decreases-loop-at : goal.decreases-loop-at
decreases-loop-at l = length l.moves - l.at
