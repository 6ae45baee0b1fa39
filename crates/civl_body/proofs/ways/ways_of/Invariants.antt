use Rattle.std.specs.Prelude.{◌≡◌, ◌++◌, drop}
use Rattle.civl_body.specs.inner.Ways.{ways_from}
use Rattle.civl_body.proofs.ways.ways_of.Given as goal

abbrev pub invariant-loop-at : goal.invariant-loop-at
invariant-loop-at l = l.ways.items ++ ways_from l.at (drop l.at l.cuts) l.sweep ≡ ways_from 0 l.cuts l.sweep
