use Rattle.std.proofs.Common.{◌≡◌, ◌+◌, drop}
use Rattle.civl_tree.specs.Numbering.{sizes_of}
use Rattle.civl_meaning.proofs.sizes.+size.Given as goal

abbrev pub invariant-sizes-loop-stmt : goal.invariant-sizes-loop-stmt
invariant-sizes-loop-stmt l = l.sum + sizes_of (drop l.stmt-index l.stmt-items) ≡ sizes_of l.fn.stmts
