use Rattle.civl_weighing.proofs.Capping.{sum_weighs, product_weighs, weighs_same}
use Rattle.civl_outlined.proofs.Totals.{invariant_is}
use Rattle.civl_outlined.proofs.weights.invariant.Goals as goal

pub returns : goal.returns
returns c =
    weighs_same (invariant_is c.args.sums.now.said.program.now c.args.sums.now.said.outline.now)
    (sum_weighs c.plus-3.ensures c.requires.bits (sum_weighs c.plus-2.ensures (sum_weighs c.plus.ensures (product_weighs c.times-twice.ensures c.of.ensures c.requires.said.holds) c.requires.initial) c.of-2.ensures))
