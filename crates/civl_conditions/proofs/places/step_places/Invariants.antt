use Rattle.std.proofs.Common.{◌≡◌, ◌++◌, [], ◌∷◌, drop}
use Rattle.std.specs.Prelude.{if◌then◌else◌}
use Rattle.civl_layers.specs.Cuts.{proc_cuts}
use Rattle.civl_conditions.specs.Steps.{each_at, has_layer}
use Rattle.civl_conditions.specs.inner.Placed.{place_of, step_places}
use Rattle.civl_conditions.proofs.places.step_places.Given as goal

abbrev pub invariant-loop-number : goal.invariant-loop-number
invariant-loop-number l =
    l.places ++ each_at (λ q proc. if has_layer l.layer proc then each_at (λ c cut. place_of q c cut ∷ []) 0 (proc_cuts proc) else []) l.number (drop l.number l.procs)
    ≡ step_places l.src l.layer
