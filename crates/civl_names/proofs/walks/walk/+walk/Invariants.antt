use Rattle.std.proofs.Common.{◌≡◌, ◌+◌, ◌*◌, ◌≤◌, length, drop}
use Rattle.civl_tree.specs.Numbering.{statements_of, inner_of}
use Rattle.civl_tree.specs.rules.Rules.{numbers_where}
use Rattle.civl_names.proofs.walks.walk.+walk.Given as goal

abbrev pub invariant-walk_all-loop-stmt : goal.invariant-walk_all-loop-stmt
invariant-walk_all-loop-stmt g l =
    (numbers_where (g.T.Test.breaks l.test) l.here (statements_of (drop l.stmt-index l.stmt-items))
    ≡ numbers_where (g.T.Test.breaks l.fn.test) l.fn.number (statements_of l.fn.stmts))
    × (l.here + length (statements_of (drop l.stmt-index l.stmt-items)) ≡ l.fn.number + length (statements_of l.fn.stmts))
    × (l.fn.number ≤ l.here)

abbrev pub decreases-walk_all : goal.decreases-walk_all
decreases-walk_all g l = 2 * length (statements_of l.stmts.now) + 1

abbrev pub decreases-walk_inside : goal.decreases-walk_inside
decreases-walk_inside g l = 2 * length (inner_of l.stmt.now) + 2
