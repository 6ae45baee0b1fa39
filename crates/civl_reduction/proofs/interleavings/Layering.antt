-- One layer: where some run of the lower system ends failing, some run of the upper one does.
use Rattle.std.proofs.Common.{ℕ, List}
use Rattle.civl_reduction.specs.interleavings.Systems.{Stepping, System}
use Rattle.civl_reduction.specs.interleavings.Runs.{SystemCanFail}
use Rattle.civl_reduction.specs.interleavings.Reduction.{Place, IsReducible}
use Rattle.civl_reduction.specs.interleavings.Simulation.{Simulates}
use Rattle.civl_reduction.proofs.interleavings.Reducing.{reduced}
use Rattle.civl_reduction.proofs.interleavings.Simulating.{simulated}

pub layer_is_sound : {C M D N : Type 0} (S : System C M) (H : Stepping D N) (place : C → ℕ → Place) (Holds : C → Type 0) (Meets : List M → C → D → Type 0)
    → IsReducible C M S place Holds → Simulates C M D N S H Meets → SystemCanFail S.steps → SystemCanFail H
layer_is_sound S H place Holds Meets l k f = simulated S H Meets k (reduced S place Holds l f)
