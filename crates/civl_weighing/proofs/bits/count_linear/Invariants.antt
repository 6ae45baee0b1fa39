use Rattle.std.proofs.Common.{map, take}
use Rattle.civl_conditions.specs.Weights.{summed}
use Rattle.civl_weighing.specs.Weighing.{Weighs}
use Rattle.std.specs.Prelude.{if◌then◌else◌}
use Rattle.civl_weighing.proofs.bits.count_linear.Given as goal

abbrev pub invariant-loop-global : goal.invariant-loop-global
invariant-loop-global l = Weighs l.total (summed (map (λ x. if x.linear then 1 else 0) (take l.global-index l.globals)))
