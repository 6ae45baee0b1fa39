use Rattle.civl_tree.specs.declared.expr.Expr.TheOpen as expr
use Rattle.civl_weighing.proofs.Capping.{weighing}
use Rattle.civl_weighing.proofs.Operations.{is_layer}
use Rattle.civl_weighing.proofs.exprs.weigh_slice.Goals as goal

pub returns : goal.returns
returns c = record { is = λ scope a h. is_layer scope (expr.Slice a c.args.high c.args.low) _ (rw (← h.sort) c.slice_sort.ensures) (search weighing depth 10) }
