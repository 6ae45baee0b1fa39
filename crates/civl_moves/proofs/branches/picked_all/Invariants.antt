use Rattle.std.specs.Prelude.{◌≡◌, ◌≤◌, ◌+◌, List, length, take}
use Rattle.civl_tree.specs.declared.expr.Sort.{Sort}
use Rattle.civl_terms.specs.Building.{Grows}
use Rattle.civl_terms.specs.Weights.{graph_weight}
use Rattle.civl_actions.specs.Scopes.{AreOf}
use Rattle.civl_moves.specs.Branches.{ArePicked, KeepsSame, differing}
use Rattle.civl_moves.proofs.branches.picked_all.Given as goal

abbrev pub invariant-loop-at : goal.invariant-loop-at
invariant-loop-at l =
    Grows l.initial.terms l.terms × ((ss : List Sort) → AreOf l.initial.terms l.xs ss → AreOf l.initial.terms l.ys ss → ArePicked l.initial.terms l.terms l.test (take l.at ss) (take l.at l.xs) (take l.at l.ys) l.ids.items)
    × (graph_weight l.terms ≤ graph_weight l.initial.terms + differing l.initial.terms (take l.at l.xs) (take l.at l.ys))
    × (length l.ids.items ≡ l.at) × KeepsSame (take l.at l.xs) (take l.at l.ys) l.ids.items
