use Rattle.std.proofs.Common.{map, take}
use Rattle.civl_conditions.specs.Weights.{summed, thread_items}
use Rattle.civl_weighing.specs.Weighing.{Weighs}
use Rattle.civl_weights.proofs.sums.tables.all_thread_items.Given as goal

abbrev pub invariant-loop-thread : goal.invariant-loop-thread
invariant-loop-thread l = Weighs l.total (summed (map (λ t. thread_items l.program t) (take l.thread-index l.threads)))
