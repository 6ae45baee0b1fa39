use Rattle.civl_tree.specs.declared.expr.Expr.TheOpen as expr
use Rattle.civl_weighing.proofs.Capping.{weighing}
use Rattle.civl_weighing.proofs.Operations.{is_layer}
use Rattle.civl_weighing.proofs.exprs.weigh_pick.Goals as goal

pub returns : goal.returns
returns c = record { is = λ scope t a b g h k. is_layer scope (expr.Pick t a b) _ (rw (← g.sort, ← h.sort, ← k.sort) c.pick_sort.ensures) (rw (← h.sort) (search weighing depth 10)) }
