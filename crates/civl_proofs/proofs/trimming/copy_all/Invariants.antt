use Rattle.std.proofs.Common.{◌≡◌, ◌++◌, take}
use Rattle.civl_proofs.proofs.trimming.copy_all.Given as goal

abbrev pub invariant-loop-clause : goal.invariant-loop-clause
invariant-loop-clause l = l.copy ≡ l.fn.copy ++ take l.clause-index l.clauses
