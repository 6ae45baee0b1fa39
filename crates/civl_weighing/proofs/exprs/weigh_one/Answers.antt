use Rattle.civl_tree.specs.declared.expr.Expr.TheOpen as expr
use Rattle.civl_weighing.proofs.Capping.{sum_weighs}
use Rattle.civl_weighing.proofs.Operations.{is_layer}
use Rattle.civl_weighing.proofs.exprs.weigh_one.Goals as goal

pub returns : goal.returns
returns c = record { is = λ scope a h. is_layer scope (expr.One c.args.op a) _ (rw (← h.sort) c.one_sort.ensures) (rw (← h.sort) (sum_weighs c.plus.ensures (c.one_own.ensures.is _ c.bits_in.ensures) h.weight)) }
