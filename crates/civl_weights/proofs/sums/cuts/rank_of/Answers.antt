use Rattle.std.proofs.Common.{ap}
use Rattle.civl_firing.specs.values.Weights.{bits_in}
use Rattle.civl_weighing.proofs.Capping.{sum_weighs, product_weighs, weighs_same}
use Rattle.civl_weights.proofs.sums.cuts.rank_of.Goals as goal

pub returns : goal.returns
returns c = sum_weighs c.plus.ensures (product_weighs c.times.ensures c.of.ensures c.weigh-found.ensures.weight) (product_weighs c.times-2.ensures c.of-2.ensures (weighs_same (ap bits_in c.weigh-found.ensures.sort) c.bits_in.ensures))
