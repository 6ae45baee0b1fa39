use Rattle.std.proofs.Common.{map, take}
use Rattle.civl_conditions.specs.Weights.{summed}
use Rattle.civl_weighing.specs.Weighing.{Weighs}
use Rattle.civl_tree.specs.rules.StoreSize.{bits_of}
use Rattle.civl_weighing.proofs.bits.params_bits.Given as goal

abbrev pub invariant-loop-param : goal.invariant-loop-param
invariant-loop-param l = Weighs l.total (summed (map (λ x. bits_of x.sort) (take l.param-index l.params)))
