use Rattle.civl_tree.specs.declared.expr.Expr.TheOpen as expr
use Rattle.civl_weighing.proofs.Capping.{weighing}
use Rattle.civl_weighing.proofs.Operations.{is_layer}
use Rattle.civl_weighing.proofs.exprs.weigh_widen.Goals as goal

pub returns : goal.returns
returns c = record { is = λ scope a h. is_layer scope (expr.Widen a c.args.wider) _ (rw (← h.sort) c.widen_sort.ensures) (search weighing depth 10) }
