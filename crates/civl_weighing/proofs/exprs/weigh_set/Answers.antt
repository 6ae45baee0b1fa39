use Rattle.civl_tree.specs.declared.expr.Expr.TheOpen as expr
use Rattle.civl_weighing.proofs.Capping.{weighing}
use Rattle.civl_weighing.proofs.Operations.{is_layer}
use Rattle.civl_weighing.proofs.exprs.weigh_set.Goals as goal

pub returns : goal.returns
returns c = record { is = λ scope r i v h k l. is_layer scope (expr.Set r i v) _ (rw (← h.sort, ← k.sort, ← l.sort) c.set_sort.ensures) (rw (← h.sort) (search weighing depth 10)) }
