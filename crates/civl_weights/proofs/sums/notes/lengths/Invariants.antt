use Rattle.std.proofs.Common.{map, take}
use Rattle.civl_weighing.specs.Weighing.{AreWeights}
use Rattle.std.proofs.Common.{length}
use Rattle.civl_weights.proofs.sums.notes.lengths.Given as goal

abbrev pub invariant-loop-list : goal.invariant-loop-list
invariant-loop-list l = AreWeights l.weights (map (λ x. length x) (take l.list-index l.lists))
