use Rattle.std.proofs.Common.{map, take}
use Rattle.civl_conditions.specs.Weights.{summed}
use Rattle.civl_weighing.specs.Weighing.{Weighs}
use Rattle.std.specs.Prelude.{if◌then◌else◌}
use Rattle.civl_tree.specs.rules.StoreSize.{bits_of}
use Rattle.civl_conditions.specs.footprints.Agreement.{exists_at}
use Rattle.civl_weighing.proofs.bits.globals_at.Given as goal

abbrev pub invariant-loop-global : goal.invariant-loop-global
invariant-loop-global l = Weighs l.total (summed (map (λ x. if exists_at l.layer x then bits_of x.sort else 0) (take l.global-index l.globals)))
