use Rattle.std.proofs.Common.{◌≡◌, ◌+◌, ◌++◌, length, drop}
use Rattle.civl_tree.specs.Numbering.{statements_of}
use Rattle.civl_layers.specs.Cuts.{cuts_among}
use Rattle.civl_layers.proofs.cut.+cuts.Given as goal

abbrev pub invariant-push_cuts-loop-stmt : goal.invariant-push_cuts-loop-stmt
invariant-push_cuts-loop-stmt l =
    (l.cuts ++ cuts_among l.here (statements_of (drop l.stmt-index l.stmt-items)) ≡ l.initial.cuts ++ cuts_among l.fn.number (statements_of l.fn.stmts))
    × (l.here + length (statements_of (drop l.stmt-index l.stmt-items)) ≡ l.fn.number + length (statements_of l.fn.stmts))
