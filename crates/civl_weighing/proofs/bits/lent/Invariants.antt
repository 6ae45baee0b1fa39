use Rattle.std.proofs.Common.{map, take}
use Rattle.civl_conditions.specs.Weights.{summed}
use Rattle.civl_weighing.specs.Weighing.{Weighs}
use Rattle.std.specs.Prelude.{if◌then◌else◌}
use Rattle.civl_linear.specs.Modes.{is_lent}
use Rattle.civl_weighing.proofs.bits.lent.Given as goal

abbrev pub invariant-loop-param : goal.invariant-loop-param
invariant-loop-param l = Weighs l.total (summed (map (λ x. if is_lent x.mode then 1 else 0) (take l.param-index l.params)))
