use Rattle.std.proofs.Common.{map, take}
use Rattle.civl_types.specs.Views.{scope_of}
use Rattle.civl_firing.specs.values.Weights.{weight_of}
use Rattle.civl_weighing.specs.Weighing.{AreWeights}
use Rattle.civl_weights.specs.sums.Sums.{exprs_at}
use Rattle.civl_weights.proofs.sums.steps.invariant_weights.Given as goal

abbrev pub invariant-loop-invariant : goal.invariant-loop-invariant
invariant-loop-invariant l = AreWeights l.weights (map (weight_of (scope_of l.view)) (exprs_at l.step (take l.invariant-index l.invariants)))
