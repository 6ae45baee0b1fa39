use Rattle.civl_weighing.proofs.Capping.{sum_weighs, product_weighs, linear_weighs}
use Rattle.civl_weights.proofs.kinds.act_of.Goals as goal

pub returns : goal.returns
returns c = record {
  is = λ step a t s h k.
      let twice = product_weighs c.times-twice.ensures c.of.ensures k.weight in
      let items = sum_weighs c.plus-items.ensures (sum_weighs c.plus.ensures c.requires h.inputs) k.items in
      sum_weighs c.plus-4.ensures (sum_weighs c.plus-3.ensures (sum_weighs c.plus-2.ensures (c.whole.ensures.is c.args.program.now a h) s) twice) (linear_weighs c.linear.ensures items);
}
