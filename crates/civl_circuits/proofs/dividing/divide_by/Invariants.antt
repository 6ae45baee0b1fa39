use Rattle.civl_circuits.proofs.Divisions.{IsDividing}
use Rattle.civl_circuits.proofs.dividing.divide_by.Given as goal

abbrev pub invariant-loop-at : goal.invariant-loop-at
invariant-loop-at l = IsDividing l.initial.gates l.gates l.a l.b l.at l.quotient.items l.remainder.items

abbrev pub decreases-loop-at : goal.decreases-loop-at
decreases-loop-at l = l.at
