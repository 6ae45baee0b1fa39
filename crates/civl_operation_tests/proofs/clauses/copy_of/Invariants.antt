use Rattle.std.proofs.Common.{◌≡◌}
use Rattle.civl_operation_tests.proofs.clauses.copy_of.Given as goal

abbrev pub invariant-loop-at : goal.invariant-loop-at
invariant-loop-at l = l.copy.variables ≡ l.cnf.variables
