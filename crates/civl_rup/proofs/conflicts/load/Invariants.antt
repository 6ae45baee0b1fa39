use Rattle.std.proofs.Common.{take}
use Rattle.civl_rup.specs.inner.Standing.{IsAtRoot}
use Rattle.civl_rup.proofs.conflicts.load.Given as goal

abbrev pub invariant-loop-at : goal.invariant-loop-at
invariant-loop-at l = IsAtRoot l.engine l.cnf.variables (take l.at l.cnf.clauses)
