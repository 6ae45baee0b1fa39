use Rattle.std.proofs.Common.{◌≡◌, ◌++◌, [], ◌∷◌, drop}
use Rattle.civl_conditions.specs.declared.condition.Condition.TheVariants.{Start}
use Rattle.civl_conditions.specs.Steps.{each_at, step_invariants}
use Rattle.civl_conditions.specs.Listed.{starts}
use Rattle.civl_conditions.proofs.listing.push_starts.Given as goal

abbrev pub invariant-loop-at : goal.invariant-loop-at
invariant-loop-at l =
    l.list ++ each_at (λ i e. Start l.step i ∷ []) l.at (drop l.at (step_invariants l.program l.step)) ≡ l.fn.list ++ starts l.program l.step
