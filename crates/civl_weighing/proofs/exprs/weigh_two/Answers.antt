use Rattle.civl_tree.specs.declared.expr.Expr.TheOpen as expr
use Rattle.civl_weighing.proofs.Capping.{sum_weighs}
use Rattle.civl_weighing.proofs.Operations.{is_layer}
use Rattle.civl_weighing.proofs.exprs.weigh_two.Goals as goal

pub returns : goal.returns
returns c = record { is = λ scope a b h k. is_layer scope (expr.Two c.args.op a b) _ (rw (← h.sort, ← k.sort) c.two_sort.ensures) (rw (← h.sort) (sum_weighs c.plus-2.ensures (sum_weighs c.plus.ensures (c.two_own.ensures.is _ c.bits_in.ensures) h.weight) k.weight)) }
