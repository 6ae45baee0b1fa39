use Rattle.std.proofs.Common.{arith}
use Rattle.civl_tree.specs.rules.StoreSize.{bits_of}
use Rattle.civl_weighing.proofs.Summing.{one_more}
use Rattle.civl_weighing.proofs.bits.params_bits.Goals as goal

pub loop-param-preserved : goal.loop-param-preserved
loop-param-preserved c = one_more (λ x. bits_of x.sort) c.args.params.now c.loop-param.param-index c.param-item.result (omega arith) c.param-item.is c.plus-total.ensures c.bits_of.ensures c.loop-param.invariant
