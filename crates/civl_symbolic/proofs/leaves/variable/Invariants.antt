use Rattle.civl_symbolic.proofs.Leaving.{IsRun}
use Rattle.civl_symbolic.proofs.leaves.variable.Given as goal

abbrev pub invariant-loop-bit : goal.invariant-loop-bit
invariant-loop-bit l = IsRun l.first l.bit l.lits.items
