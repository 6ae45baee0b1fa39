use Rattle.std.proofs.Common.{arith}
use Rattle.std.specs.Prelude.{if◌then◌else◌}
use Rattle.civl_tree.specs.rules.Width.{is_linear}
use Rattle.civl_weighing.proofs.Capping.{weighs_same}
use Rattle.civl_weighing.proofs.Summing.{one_more, counted, whole}
use Rattle.civl_weighing.proofs.bits.linear_inputs.Goals as goal

pub loop-param-preserved : goal.loop-param-preserved
loop-param-preserved c = one_more (λ x. if is_linear x.mode then 1 else 0) c.args.params.now c.loop-param.param-index c.param-item.result (omega arith) c.param-item.is c.plus-total.ensures (rw (← c.is_linear.ensures) c.one_where.ensures) c.loop-param.invariant

pub returns : goal.returns
returns c = weighs_same (counted (λ x. is_linear x.mode) c.args.params.now) (whole (λ x. if is_linear x.mode then 1 else 0) c.args.params.now c.loop-param.param-index (omega arith) c.loop-param.invariant)
