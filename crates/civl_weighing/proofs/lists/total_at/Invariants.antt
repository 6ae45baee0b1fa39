use Rattle.std.proofs.Common.{ℕ, List, map, take}
use Rattle.std.specs.Prelude.{slice_index_or as get_or}
use Rattle.civl_conditions.specs.Weights.{summed}
use Rattle.civl_weighing.specs.Weighing.{Weighs, AreWeights}
use Rattle.civl_weighing.proofs.lists.total_at.Given as goal

abbrev pub invariant-loop-at : goal.invariant-loop-at
invariant-loop-at l = (ns : List ℕ) → AreWeights l.weights ns → Weighs l.total (summed (map (λ at. get_or ns at 0) (take l.at-index l.places)))
