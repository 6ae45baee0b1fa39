use Rattle.civl_tree.specs.declared.expr.Expr.TheOpen as expr
use Rattle.civl_weighing.proofs.Capping.{weighing}
use Rattle.civl_weighing.proofs.Operations.{is_layer}
use Rattle.civl_weighing.proofs.exprs.weigh_join.Goals as goal

pub returns : goal.returns
returns c = record { is = λ scope a b h k. is_layer scope (expr.Join a b) _ (rw (← h.sort, ← k.sort) c.join_sort.ensures) (search weighing depth 10) }
