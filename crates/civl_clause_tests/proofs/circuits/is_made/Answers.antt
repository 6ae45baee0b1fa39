use Rattle.std.proofs.Common.{arith}
use Rattle.civl_clause_tests.proofs.circuits.is_made.Goals as goal

pub circuit-requires-clause-c : goal.circuit-requires-clause-c
circuit-requires-clause-c c = record { below = c.in_ok-c.ensures.below _ (omega (arith, c.in_ok-gates.ensures.variables)); limits = c.in_ok-c.ensures.limits }
