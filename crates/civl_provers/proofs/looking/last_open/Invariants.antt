use Rattle.std.proofs.Common.{◌≤◌}
use Rattle.civl_provers.specs.inner.Node.{HaveValuesFrom}
use Rattle.civl_provers.proofs.looking.last_open.Given as goal

abbrev pub invariant-loop-at : goal.invariant-loop-at
invariant-loop-at l = record {
  low : l.at ≤ l.end;
  behind : HaveValuesFrom l.marks l.at;
}

abbrev pub decreases-loop-at : goal.decreases-loop-at
decreases-loop-at l = l.at
