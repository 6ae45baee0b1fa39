use Rattle.std.proofs.Common.{◌-◌, length}
use Rattle.civl_circuits.proofs.Moves.{IsMoved}
use Rattle.civl_circuits.proofs.shifting.shift.Given as goal

abbrev pub invariant-loop-distance : goal.invariant-loop-distance
invariant-loop-distance l = IsMoved l.direction l.initial.gates l.gates l.a l.b l.at l.distance l.word.items

abbrev pub decreases-loop-distance : goal.decreases-loop-distance
decreases-loop-distance l = length l.a - l.distance
