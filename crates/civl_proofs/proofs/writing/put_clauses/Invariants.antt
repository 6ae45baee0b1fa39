use Rattle.std.proofs.Common.{◌≡◌, ◌++◌, drop}
use Rattle.civl_proofs.specs.Text.{clause_lines}
use Rattle.civl_proofs.proofs.writing.put_clauses.Given as goal

abbrev pub invariant-loop-clause : goal.invariant-loop-clause
invariant-loop-clause l = l.out.items ++ clause_lines (drop l.clause-index l.clauses) ≡ l.fn.out.items ++ clause_lines l.clauses
