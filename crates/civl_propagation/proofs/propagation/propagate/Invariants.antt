use Rattle.std.proofs.Common.{◌≤◌, ◌+◌, ◌-◌, length}
use Rattle.civl_units.specs.Trail.{open_count}
use Rattle.civl_units.specs.Marks.{marked}
use Rattle.civl_propagation.specs.Trail.{before}
use Rattle.civl_propagation.specs.Propagation.{Grows}
use Rattle.civl_propagation.specs.Watches.{IsHeld, AllKeepUp}
use Rattle.civl_propagation.proofs.propagation.propagate.Given as goal

abbrev pub invariant-loop-at : goal.invariant-loop-at
invariant-loop-at l = record {
  grows : Grows l.fn.trail l.trail;
  held : IsHeld l.trail l.clauses l.watches;
  low : l.at ≤ length l.trail.steps;
  keeps : AllKeepUp (before l.trail.marks l.trail.places l.at) (marked l.trail.marks) l.clauses l.watches.pairs;
}

abbrev pub decreases-loop-at : goal.decreases-loop-at
decreases-loop-at l = open_count l.trail.marks + length l.trail.steps - l.at
