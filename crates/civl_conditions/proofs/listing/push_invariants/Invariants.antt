use Rattle.std.proofs.Common.{◌≡◌, ◌++◌, [], ◌∷◌, drop}
use Rattle.civl_conditions.specs.declared.condition.Target.TheVariants.{Invariant}
use Rattle.civl_conditions.specs.Steps.{each_at, step_invariants}
use Rattle.civl_conditions.proofs.listing.push_invariants.Given as goal

abbrev pub invariant-loop-at : goal.invariant-loop-at
invariant-loop-at l =
    l.list ++ each_at (λ i e. Invariant i ∷ []) l.at (drop l.at (step_invariants l.program l.step)) ≡ l.fn.list ++ each_at (λ i e. Invariant i ∷ []) 0 (step_invariants l.program l.step)
