use Rattle.civl_tree.specs.declared.expr.Expr.TheOpen as expr
use Rattle.civl_weighing.proofs.Capping.{weighing}
use Rattle.civl_weighing.proofs.Operations.{is_layer}
use Rattle.civl_weighing.proofs.exprs.weigh_fill.Goals as goal

pub returns : goal.returns
returns c = record { is = λ scope v h. is_layer scope (expr.Fill c.args.index v) _ (rw (← h.sort) c.fill_sort.ensures) (search weighing depth 10) }
