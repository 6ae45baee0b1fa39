use Rattle.std.proofs.Common.{map, take}
use Rattle.civl_conditions.specs.Weights.{summed}
use Rattle.civl_weighing.specs.Weighing.{Weighs}
use Rattle.civl_types.specs.Views.{scope_of}
use Rattle.civl_firing.specs.values.Weights.{weight_of}
use Rattle.civl_weights.proofs.sums.actions.offers_weight.Given as goal

abbrev pub invariant-loop-choice : goal.invariant-loop-choice
invariant-loop-choice l = Weighs l.total (summed (map (λ x. weight_of (scope_of l.view) x.offer) (take l.choice-index l.choices)))
