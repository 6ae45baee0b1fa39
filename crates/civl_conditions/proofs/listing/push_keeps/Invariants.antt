use Rattle.std.proofs.Common.{◌≡◌, ◌++◌, [], ◌∷◌, drop}
use Rattle.std.specs.Prelude.{if◌then◌else◌}
use Rattle.civl_conditions.specs.declared.condition.Condition.TheVariants.{Keep}
use Rattle.civl_conditions.specs.Steps.{each_at, begins_below}
use Rattle.civl_conditions.specs.Listed.{keeps}
use Rattle.civl_conditions.proofs.listing.push_keeps.Given as goal

abbrev pub invariant-loop-at : goal.invariant-loop-at
invariant-loop-at l =
    l.list ++ each_at (λ x a. if begins_below l.step a then Keep l.step x ∷ [] else []) l.at (drop l.at l.actions) ≡ l.fn.list ++ keeps l.fn.program l.step
