use Rattle.civl_tree.specs.declared.expr.Expr.TheOpen as expr
use Rattle.civl_weighing.proofs.Capping.{weighing}
use Rattle.civl_weighing.proofs.Operations.{is_layer}
use Rattle.civl_weighing.proofs.exprs.weigh_get.Goals as goal

pub returns : goal.returns
returns c = record { is = λ scope r i h k. is_layer scope (expr.Get r i) _ (rw (← h.sort, ← k.sort) c.get_sort.ensures) (rw (← h.sort) (search weighing depth 10)) }
