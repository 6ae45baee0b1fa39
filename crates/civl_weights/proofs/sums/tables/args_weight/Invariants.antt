use Rattle.std.proofs.Common.{map, take}
use Rattle.civl_conditions.specs.Weights.{summed}
use Rattle.civl_weighing.specs.Weighing.{Weighs}
use Rattle.civl_conditions.specs.Weights.{weights_of, global_weight}
use Rattle.civl_weights.proofs.sums.tables.args_weight.Given as goal

abbrev pub invariant-loop-thread : goal.invariant-loop-thread
invariant-loop-thread l = Weighs l.total (summed (map (λ t. weights_of (global_weight l.program) t.args) (take l.thread-index l.threads)))
