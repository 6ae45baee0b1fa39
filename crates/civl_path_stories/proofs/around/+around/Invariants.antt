use Rattle.std.proofs.Common.{◌≡◌, ◌+◌, ◌++◌, length, drop}
use Rattle.civl_tree.specs.Numbering.{statements_of}
use Rattle.civl_path_stories.specs.Around.{around_among}
use Rattle.civl_path_stories.proofs.around.+around.Given as goal

abbrev pub invariant-push_among-loop-stmt : goal.invariant-push_among-loop-stmt
invariant-push_among-loop-stmt l =
    (l.found ++ around_among l.fn.inner l.here (statements_of (drop l.stmt-index l.stmt-items))
    ≡ l.initial.found ++ around_among l.fn.inner l.fn.number (statements_of l.fn.stmts))
    × (l.here + length (statements_of (drop l.stmt-index l.stmt-items)) ≡ l.fn.number + length (statements_of l.fn.stmts))
