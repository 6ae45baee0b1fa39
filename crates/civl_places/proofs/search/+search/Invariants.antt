use Rattle.std.proofs.Common.{◌≡◌, drop}
use Rattle.civl_tree.specs.Numbering.{statements_of}
use Rattle.civl_places.specs.inner.Searched.{searched}
use Rattle.civl_places.proofs.search.+search.Given as goal

abbrev pub invariant-search_stmts-loop-stmt : goal.invariant-search_stmts-loop-stmt
invariant-search_stmts-loop-stmt l = searched (statements_of (drop l.stmt-index l.stmt-items)) l.left ≡ searched (statements_of l.fn.stmts) l.fn.number
