use Rattle.std.proofs.Common.{◌≡◌, ◌+◌, drop, map, length}
use Rattle.civl_tree.specs.Spelling.{joined}
use Rattle.civl_tree.specs.SpellingStmt.{spell_stmt}
use Rattle.civl_places.proofs.statement.+stmt.Given as goal

abbrev pub invariant-stmts_count-loop-stmt : goal.invariant-stmts_count-loop-stmt
invariant-stmts_count-loop-stmt l =
    l.sum + length (joined (map spell_stmt (drop l.stmt-index l.stmt-items))) ≡ length (joined (map spell_stmt l.fn.stmts))
