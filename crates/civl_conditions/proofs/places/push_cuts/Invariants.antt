use Rattle.std.proofs.Common.{◌≡◌, ◌++◌, [], ◌∷◌, drop}
use Rattle.civl_conditions.specs.Steps.{each_at}
use Rattle.civl_conditions.specs.inner.Placed.{place_of}
use Rattle.civl_conditions.proofs.places.push_cuts.Given as goal

abbrev pub invariant-loop-at : goal.invariant-loop-at
invariant-loop-at l =
    l.places ++ each_at (λ c cut. place_of l.number c cut ∷ []) l.at (drop l.at l.items) ≡ l.fn.places ++ each_at (λ c cut. place_of l.number c cut ∷ []) 0 l.fn.cuts
