use Rattle.std.proofs.Common.{◌≡◌, ◌+◌, drop, map, length}
use Rattle.civl_tree.specs.Spelling.{joined}
use Rattle.civl_tree.specs.SpellingStmt.{spell_stmt}
use Rattle.civl_places.specs.Starts.{starts_of}
use Rattle.civl_places.specs.inner.Walked.{walked}
use Rattle.civl_places.proofs.walk.+walk.Given as goal

abbrev pub invariant-walk_stmts-loop-stmt : goal.invariant-walk_stmts-loop-stmt
invariant-walk_stmts-loop-stmt l = record {
  tokens : l.at + length (joined (map spell_stmt (drop l.stmt-index l.stmt-items))) ≡ l.fn.start + length (joined (map spell_stmt l.fn.stmts));
  starts : walked (starts_of l.at (drop l.stmt-index l.stmt-items)) l.left ≡ walked (starts_of l.fn.start l.fn.stmts) l.fn.number;
}
