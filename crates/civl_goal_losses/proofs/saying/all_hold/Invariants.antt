use Rattle.std.proofs.Common.{◌≡◌, drop}
use Rattle.std.specs.List.{list_all}
use Rattle.civl_conditions.specs.Invariants.{holds_of_globals}
use Rattle.civl_goal_losses.proofs.saying.all_hold.Given as goal

abbrev pub invariant-loop-expr : goal.invariant-loop-expr
invariant-loop-expr l = list_all (holds_of_globals l.program l.store) (drop l.expr-index l.exprs) ≡ list_all (holds_of_globals l.program l.store) l.exprs
