use Rattle.std.proofs.Common.{◌≡◌, ◌≤◌, ◌+◌, drop}
use Rattle.civl_tree.specs.Numbering.{sizes_of}
use Rattle.civl_meaning.proofs.seeking.+size.Given as goal

abbrev pub invariant-sizes_within-loop-stmt : goal.invariant-sizes_within-loop-stmt
invariant-sizes_within-loop-stmt l = (l.sum + sizes_of (drop l.stmt-index l.stmt-items) ≡ sizes_of l.fn.stmts) × (l.sum ≤ l.fn.limit)
