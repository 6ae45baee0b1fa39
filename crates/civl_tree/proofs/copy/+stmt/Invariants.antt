use Rattle.std.proofs.Common.{◌≡◌, take}
use Rattle.civl_tree.proofs.copy.+stmt.Given as goal

abbrev pub invariant-copy_stmts-loop-stmt : goal.invariant-copy_stmts-loop-stmt
invariant-copy_stmts-loop-stmt l = l.copies.items ≡ take l.stmt-index l.stmts
