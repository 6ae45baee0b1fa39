-- What it takes to follow block runs in another system, whose runs go on failing. (Forward simulation, as in Lynch,
-- Vaandrager, Forward and backward simulations, 1995.)
use Rattle.std.specs.Prelude.{ℕ, ◌≡◌, true, false, List, [], ◌∷◌, ◌++◌, None, Some}
use Rattle.civl_reduction.specs.interleavings.Systems.{Stepping, Failing, System}
use Rattle.civl_reduction.specs.interleavings.Runs.{SystemRuns, FailsFrom, IsBlockRun, Staged, Opens}

-- `Meets` ties a block run and its end to a configuration of the other system.
pub record Simulates (C M D N : Type 0) (S : System C M) (H : Stepping D N) (Meets : List M → C → D → Type 0) : Type 0 where
  pub meets_first : Meets [] S.start H.start
  -- behind a block run that isn't challenged, a block is followed by a run
  pub meets_on : (ps ms : List M) (m : M) (t : ℕ) (c e d : C) (x : D)
      → Staged S ps None c → Meets ps c x → Opens S t ms c e → S.mover m ≡ t → S.step e m ≡ Some d → S.inside d t ≡ false
      → (ns : List N) × (y : D) × SystemRuns H ns x y × Meets (ps ++ (ms ++ m ∷ [])) d y
  -- where the block run is challenged, the other system can fail
  pub challenged_fails : (ps : List M) (c : C) (x : D) → IsBlockRun S ps c → Meets ps c x → S.challenged ps ≡ true → FailsFrom H x
  -- and where its end fails
  pub failing_fails : (ps : List M) (c : C) (x : D) → Staged S ps None c → Meets ps c x → Failing S.steps c → FailsFrom H x
