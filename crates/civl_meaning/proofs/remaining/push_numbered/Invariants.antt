use Rattle.std.proofs.Common.{◌≡◌, ◌+◌, ◌++◌, drop}
use Rattle.civl_tree.specs.Numbering.{numbered, sizes_of}
use Rattle.civl_meaning.specs.Remaining.{rest_of}
use Rattle.civl_meaning.proofs.remaining.push_numbered.Given as goal

abbrev pub invariant-loop-stmt : goal.invariant-loop-stmt
invariant-loop-stmt l = record {
  counted : l.here + sizes_of (drop l.stmt-index l.stmts) ≡ l.number + sizes_of l.stmts;
  left : rest_of l.rest.items ++ numbered l.here (drop l.stmt-index l.stmts) ≡ rest_of l.initial.rest.items ++ numbered l.number l.stmts;
}
