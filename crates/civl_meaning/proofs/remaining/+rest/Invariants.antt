use Rattle.std.proofs.Common.{◌≡◌, ◌+◌, [], drop}
use Rattle.civl_tree.specs.Numbering.{sizes_of}
use Rattle.civl_meaning.specs.Rest.{rest_among}
use Rattle.civl_meaning.proofs.remaining.+rest.Given as goal

abbrev pub invariant-push_among-loop-i : goal.invariant-push_among-loop-i
invariant-push_among-loop-i l = record {
  counted : l.here + sizes_of (drop l.i l.items) ≡ l.at + sizes_of l.stmts;
  left : rest_among (drop l.i l.items) l.here [] l.wanted ≡ rest_among l.stmts l.at [] l.wanted;
  rest : l.rest.items ≡ l.initial.rest.items;
}
