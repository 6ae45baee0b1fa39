use Rattle.civl_weighing.proofs.Capping.{sum_weighs, product_weighs, linear_weighs}
use Rattle.civl_outlined.proofs.weights.together.Goals as goal

pub returns : goal.returns
returns c = record {
  is = λ v b n variables says items.
      sum_weighs c.plus-3.ensures variables (sum_weighs c.plus-2.ensures (sum_weighs c.plus.ensures (product_weighs c.times-twice.ensures c.of.ensures says) (linear_weighs c.linear.ensures items)) c.of-2.ensures);
}
