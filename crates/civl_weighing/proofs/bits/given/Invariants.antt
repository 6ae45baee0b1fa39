use Rattle.std.proofs.Common.{map, take}
use Rattle.civl_conditions.specs.Weights.{summed}
use Rattle.civl_weighing.specs.Weighing.{Weighs}
use Rattle.std.specs.Prelude.{if◌then◌else◌}
use Rattle.civl_linear.specs.Modes.{is_given}
use Rattle.civl_weighing.proofs.bits.given.Given as goal

abbrev pub invariant-loop-out : goal.invariant-loop-out
invariant-loop-out l = Weighs l.total (summed (map (λ x. if is_given x.mode then 1 else 0) (take l.out-index l.outs)))
