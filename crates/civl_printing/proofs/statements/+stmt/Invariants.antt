use Rattle.std.proofs.Common.{◌≡◌, ◌++◌, drop, map}
use Rattle.civl_tree.specs.Spelling.{joined}
use Rattle.civl_tree.specs.SpellingStmt.{spell_stmt}
use Rattle.civl_printing.specs.Written.{written}
use Rattle.civl_printing.proofs.statements.+stmt.Given as goal

abbrev pub invariant-put_stmts-loop-stmt : goal.invariant-put_stmts-loop-stmt
invariant-put_stmts-loop-stmt l =
    l.out.items ++ written (joined (map spell_stmt (drop l.stmt-index l.stmt-items))) ≡ l.initial.out.items ++ written (joined (map spell_stmt l.stmt-items))
