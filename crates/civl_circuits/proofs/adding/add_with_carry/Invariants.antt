use Rattle.civl_circuits.proofs.Sums.{IsSum}
use Rattle.civl_circuits.proofs.adding.add_with_carry.Given as goal

abbrev pub invariant-loop-i : goal.invariant-loop-i
invariant-loop-i l = IsSum l.initial.gates l.gates l.a l.b l.fn.carry l.i l.sum.items l.rest
