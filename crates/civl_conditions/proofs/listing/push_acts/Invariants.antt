use Rattle.std.proofs.Common.{◌≡◌, ◌++◌, [], drop, map}
use Rattle.std.specs.Prelude.{if◌then◌else◌}
use Rattle.civl_conditions.specs.declared.condition.Condition.TheVariants.{Act}
use Rattle.civl_conditions.specs.Steps.{each_at, lasts_through}
use Rattle.civl_conditions.proofs.listing.push_acts.Given as goal

abbrev pub invariant-loop-at : goal.invariant-loop-at
invariant-loop-at l =
    l.list ++ each_at (λ x a. if lasts_through l.step a then map (Act l.step x) l.targets else []) l.at (drop l.at l.actions)
    ≡ l.fn.list ++ each_at (λ x a. if lasts_through l.step a then map (Act l.step x) l.targets else []) 0 l.fn.program.actions
