use Rattle.std.proofs.Common.{arith}
use Rattle.civl_tree.specs.rules.StoreSize.{bits_of}
use Rattle.civl_weighing.proofs.Summing.{one_more}
use Rattle.civl_weighing.proofs.bits.choices_bits.Goals as goal

pub loop-choice-preserved : goal.loop-choice-preserved
loop-choice-preserved c = one_more (λ x. bits_of x.sort) c.args.choices.now c.loop-choice.choice-index c.choice-item.result (omega arith) c.choice-item.is c.plus-total.ensures c.bits_of.ensures c.loop-choice.invariant
