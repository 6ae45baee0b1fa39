use Rattle.std.proofs.Common.{map, take}
use Rattle.civl_conditions.specs.Weights.{summed}
use Rattle.civl_weighing.specs.Weighing.{Weighs}
use Rattle.std.specs.Prelude.{if◌then◌else◌}
use Rattle.civl_tree.specs.rules.StoreSize.{bits_of}
use Rattle.civl_tree.specs.rules.Names.{has_name}
use Rattle.civl_weights.proofs.sums.statements.globals_written.Given as goal

abbrev pub invariant-loop-global : goal.invariant-loop-global
invariant-loop-global l = Weighs l.total (summed (map (λ x. if has_name (map (λ n. n.now) l.names) x.name then bits_of x.sort else 0) (take l.global-index l.globals)))
