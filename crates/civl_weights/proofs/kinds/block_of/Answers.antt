use Rattle.std.proofs.Common.{ℕ, ◌+◌, ap, sym}
use Rattle.civl_conditions.specs.Variables.{path_variables, other_variables}
use Rattle.civl_conditions.specs.Weights.{block_weight}
use Rattle.civl_weighing.proofs.Capping.{sum_weighs, product_weighs, weighs_same}
use Rattle.civl_weighing.proofs.Summing.{bits_append}
use Rattle.civl_weights.proofs.kinds.block_of.Goals as goal

pub returns : goal.returns
returns c = record {
  is = λ step proc number cut h k.
      let own = sum_weighs c.plus-own.ensures (sum_weighs c.plus-3.ensures (sum_weighs c.plus-2.ensures h.base h.passed) (product_weighs c.times-at_ends.ensures h.stops (sum_weighs c.plus.ensures k.weight c.of.ensures))) k.weight in
      weighs_same (ap (λ (n : ℕ). n + block_weight c.args.program.now step proc number cut c.args.target) (sym (bits_append (path_variables c.args.program.now step proc cut) (other_variables c.args.program.now c.args.target))))
      (sum_weighs c.plus-6.ensures (sum_weighs c.plus-4.ensures h.variables k.frame) (sum_weighs c.plus-5.ensures own (c.together-both.ensures.is _ h.items)));
}
