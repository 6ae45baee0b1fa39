use Rattle.std.proofs.Common.{◌≡◌, length}
use Rattle.civl_units.proofs.Trails.{Covers}
use Rattle.civl_units.proofs.marks.Marks.clear.Given as goal

abbrev pub invariant-loop-variable : goal.invariant-loop-variable
invariant-loop-variable l = record {
  size : length l.self-inside.values.items ≡ length l.fn.self.values;
  trail : Covers l.self-inside.values.items l.self-inside.trail.items;
}

abbrev pub decreases-loop-variable : goal.decreases-loop-variable
decreases-loop-variable l = length l.self-inside.trail.items
