use Rattle.std.proofs.Common.{◌≤◌, length}
use Rattle.civl_cdcl.specs.inner.Analysis.{AreFound, Analyses}
use Rattle.civl_cdcl.proofs.analysis.walk.Given as goal

abbrev pub invariant-loop-seen : goal.invariant-loop-seen
invariant-loop-seen l = record {
  top : l.at ≤ length l.trail.steps;
  seen : Analyses l.trail.marks l.trail.places l.clauses l.at l.seen;
  found : AreFound l.seen l.found.items;
}

abbrev pub decreases-loop-seen : goal.decreases-loop-seen
decreases-loop-seen l = l.at
