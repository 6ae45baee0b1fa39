use Rattle.std.proofs.Common.{ℕ, List, take}
use Rattle.civl_conditions.specs.Weights.{summed}
use Rattle.civl_weighing.specs.Weighing.{Weighs, AreWeights}
use Rattle.civl_weighing.proofs.lists.total.Given as goal

abbrev pub invariant-loop-weight : goal.invariant-loop-weight
invariant-loop-weight l = (ns : List ℕ) → AreWeights l.weights ns → Weighs l.total (summed (take l.weight-index ns))
