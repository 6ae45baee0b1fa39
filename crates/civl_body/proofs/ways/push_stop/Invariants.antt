use Rattle.std.specs.Prelude.{◌≡◌, drop}
use Rattle.civl_body.specs.inner.Ways.{ways_before}
use Rattle.civl_body.proofs.ways.push_stop.Given as goal

abbrev pub invariant-loop-stop : goal.invariant-loop-stop
invariant-loop-stop l = (l.ways.items ≡ l.initial.ways.items) × (ways_before l.cut l.end (drop l.stop-index l.stops) ≡ ways_before l.cut l.end l.stops)
