use Rattle.std.proofs.Common.{arith}
use Rattle.std.specs.Prelude.{if◌then◌else◌}
use Rattle.civl_linear.specs.Modes.{is_given}
use Rattle.civl_weighing.proofs.Capping.{weighs_same}
use Rattle.civl_weighing.proofs.Summing.{one_more, counted, whole}
use Rattle.civl_weighing.proofs.bits.given.Goals as goal

pub loop-out-preserved : goal.loop-out-preserved
loop-out-preserved c = one_more (λ x. if is_given x.mode then 1 else 0) c.args.outs.now c.loop-out.out-index c.out-item.result (omega arith) c.out-item.is c.plus-total.ensures (rw (← c.is_given.ensures) c.one_where.ensures) c.loop-out.invariant

pub returns : goal.returns
returns c = weighs_same (counted (λ x. is_given x.mode) c.args.outs.now) (whole (λ x. if is_given x.mode then 1 else 0) c.args.outs.now c.loop-out.out-index (omega arith) c.loop-out.invariant)
