use Rattle.std.proofs.Common.{◌≤◌, length}
use Rattle.civl_propagation.proofs.Cutting.{Cutting}
use Rattle.civl_propagation.proofs.trail.Trail.pop_level.Given as goal

abbrev pub invariant-loop-self : goal.invariant-loop-self
invariant-loop-self l = record {
  cutting : Cutting l.fn.self l.self;
  low : l.top ≤ length l.self.steps;
}

abbrev pub decreases-loop-self : goal.decreases-loop-self
decreases-loop-self l = length l.self.steps
