use Rattle.std.proofs.Common.{◌≤◌, ◌<◌, length}
use Rattle.civl_propagation.specs.Trail.{IsCut}
use Rattle.civl_propagation.proofs.trail.Trail.cut.Given as goal

abbrev pub invariant-loop-self : goal.invariant-loop-self
invariant-loop-self l = record {
  cut : IsCut l.fn.self l.self (length l.self.starts);
  left : l.levels ≤ length l.self.starts;
  fewer : length l.self.starts < length l.fn.self.starts;
}

abbrev pub decreases-loop-self : goal.decreases-loop-self
decreases-loop-self l = length l.self.starts
