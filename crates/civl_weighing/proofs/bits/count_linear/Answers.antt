use Rattle.std.proofs.Common.{arith}
use Rattle.std.specs.Prelude.{if◌then◌else◌}
use Rattle.civl_weighing.proofs.Capping.{weighs_same}
use Rattle.civl_weighing.proofs.Summing.{one_more, counted, whole}
use Rattle.civl_weighing.proofs.bits.count_linear.Goals as goal

pub loop-global-preserved : goal.loop-global-preserved
loop-global-preserved c = one_more (λ x. if x.linear then 1 else 0) c.args.globals.now c.loop-global.global-index c.global-item.result (omega arith) c.global-item.is c.plus-total.ensures c.one_where.ensures c.loop-global.invariant

pub returns : goal.returns
returns c = weighs_same (counted (λ x. x.linear) c.args.globals.now) (whole (λ x. if x.linear then 1 else 0) c.args.globals.now c.loop-global.global-index (omega arith) c.loop-global.invariant)
