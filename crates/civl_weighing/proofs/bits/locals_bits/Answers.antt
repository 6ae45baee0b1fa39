use Rattle.std.proofs.Common.{arith}
use Rattle.civl_tree.specs.rules.StoreSize.{bits_of}
use Rattle.civl_weighing.proofs.Summing.{one_more}
use Rattle.civl_weighing.proofs.bits.locals_bits.Goals as goal

pub loop-local-preserved : goal.loop-local-preserved
loop-local-preserved c = one_more (λ x. bits_of x.sort) c.args.locals.now c.loop-local.local-index c.local-item.result (omega arith) c.local-item.is c.plus-total.ensures c.bits_of.ensures c.loop-local.invariant
