use Rattle.std.proofs.Common.{◌≡◌, drop, length}
use Rattle.civl_blocked.specs.inner.Segments.{over, FailsTo}
use Rattle.civl_blocked.proofs.leading.places_along.Given as goal

abbrev pub invariant-loop-at : goal.invariant-loop-at
invariant-loop-at l = record {
  fails : FailsTo (over l.ground) (drop l.at l.rest.items) l.config;
  one_each : length l.places.items ≡ l.at;
}
