use Rattle.civl_circuits.proofs.Divisions.{IsLow}
use Rattle.civl_circuits.proofs.dividing.width_below.Given as goal

abbrev pub invariant-loop-width : goal.invariant-loop-width
invariant-loop-width l = IsLow l.word l.zero l.width

abbrev pub decreases-loop-width : goal.decreases-loop-width
decreases-loop-width l = l.width
