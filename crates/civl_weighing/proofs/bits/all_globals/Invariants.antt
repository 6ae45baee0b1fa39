use Rattle.std.proofs.Common.{map, take}
use Rattle.civl_conditions.specs.Weights.{summed}
use Rattle.civl_weighing.specs.Weighing.{Weighs}
use Rattle.civl_tree.specs.rules.StoreSize.{bits_of}
use Rattle.civl_weighing.proofs.bits.all_globals.Given as goal

abbrev pub invariant-loop-global : goal.invariant-loop-global
invariant-loop-global l = Weighs l.total (summed (map (λ x. bits_of x.sort) (take l.global-index l.globals)))
