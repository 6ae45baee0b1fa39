use Rattle.std.proofs.Common.{take}
use Rattle.civl_cnf.specs.ClauseSet.{IsBelow}
use Rattle.civl_clause_tests.proofs.dimacs.is_below.Given as goal

abbrev pub invariant-loop-lit : goal.invariant-loop-lit
invariant-loop-lit l = IsBelow l.variables (take l.lit-index l.lits)
