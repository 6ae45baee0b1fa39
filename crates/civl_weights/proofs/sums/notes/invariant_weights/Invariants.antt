use Rattle.std.proofs.Common.{map, take}
use Rattle.civl_weighing.specs.Weighing.{AreWeights}
use Rattle.civl_conditions.specs.Weights.{note_weight, maybe_weight}
use Rattle.civl_conditions.specs.Assumed.{cut_invariant}
use Rattle.civl_weights.proofs.sums.notes.invariant_weights.Given as goal

abbrev pub invariant-loop-cut : goal.invariant-loop-cut
invariant-loop-cut l = AreWeights l.weights (map (λ cut. maybe_weight (note_weight l.program l.proc) (cut_invariant l.proc cut)) (take l.cut-index l.cuts))
