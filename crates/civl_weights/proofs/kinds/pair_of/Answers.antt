use Rattle.civl_weighing.proofs.Capping.{sum_weighs, product_weighs, linear_weighs}
use Rattle.civl_weights.proofs.kinds.pair_of.Goals as goal

pub returns : goal.returns
returns c = record {
  is = λ a b h k.
      let twice = product_weighs c.times-twice.ensures c.of.ensures (sum_weighs c.plus.ensures (c.whole.ensures.is c.args.program.now a h) (c.whole-2.ensures.is c.args.program.now b k)) in
      let items = sum_weighs c.plus-items.ensures (sum_weighs c.plus-2.ensures c.requires.globals h.inputs) k.inputs in
      sum_weighs c.plus-6.ensures (sum_weighs c.plus-5.ensures (sum_weighs c.plus-4.ensures (sum_weighs c.plus-3.ensures twice c.requires.step.lower) h.outs) k.outs) (linear_weighs c.linear.ensures items);
}
