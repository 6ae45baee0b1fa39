use Rattle.std.proofs.Common.{◌≡◌, ◌+◌, drop}
use Rattle.civl_tree.specs.Numbering.{sizes_of}
use Rattle.civl_history.proofs.counting.+counted.Given as goal

abbrev pub invariant-counted_all-loop-stmt : goal.invariant-counted_all-loop-stmt
invariant-counted_all-loop-stmt l = l.sum + sizes_of (drop l.stmt-index l.stmt-items) ≡ sizes_of l.fn.stmts
