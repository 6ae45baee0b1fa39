use Rattle.civl_blast.proofs.Flow.{IsBlasting}
use Rattle.civl_blast.proofs.blasting.gates_of.Given as goal

abbrev pub invariant-loop-at : goal.invariant-loop-at
invariant-loop-at l = IsBlasting l.terms l.marks l.count l.at l.gates l.one l.table.items l.first
