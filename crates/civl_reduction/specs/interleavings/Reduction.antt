-- What the reduction asks of a system. The steps of a block are right movers up to its turn, and left movers behind it.
-- (Lipton 1975; Flanagan, Qadeer, A type and effect system for atomicity, 2003.)
use Rattle.std.specs.Prelude.{ℕ, zero, suc, ◌≡◌, ◌≢◌, Bool, true, false, List, Some, ◌⊎◌}
use Rattle.civl_reduction.specs.interleavings.Systems.{Stepping, Failing, System}
use Rattle.civl_reduction.specs.interleavings.Runs.{Staged}

-- Where a thread stands.
-- Between: inside no block, or not there.
-- Early: inside a block, all of whose steps so far may go behind steps of other threads.
-- Late: inside a block, all of whose further steps may go before steps of other threads.
pub data Place : Type 0 where
  Between Early Late : Place

abbrev pub is_inside : Place → Bool
is_inside Between = false
is_inside Early = true
is_inside Late = true

-- the steps m from c and then n to e, the other way round: they go to the same end; or something fails before, in c or
-- after n alone
abbrev pub Exchanged : {C M : Type 0} → Stepping C M → C → M → M → C → Type 0
Exchanged {C} S c m n e =
    ((d : C) × (S.step c n ≡ Some d) × (S.step d m ≡ Some e)) ⊎ (Failing S c ⊎ ((d : C) × (S.step c n ≡ Some d) × Failing S d))

-- at most n steps of thread t, one behind the other, leave it late
abbrev pub Within : {C M : Type 0} → System C M → (C → ℕ → Place) → ℕ → ℕ → C → Type 0
Within {C} {M} S place t zero c = (m : M) (d : C) → S.mover m ≡ t → S.step c m ≡ Some d → place d t ≢ Late
Within {C} {M} S place t (suc n) c = (m : M) (d : C) → S.mover m ≡ t → S.step c m ≡ Some d → place d t ≡ Late → Within S place t n d

-- A system whose runs can be reduced to block runs. `place` tells where each thread stands, and `Holds` is an invariant of
-- all runs.
pub record IsReducible (C M : Type 0) (S : System C M) (place : C → ℕ → Place) (Holds : C → Type 0) : Type 0 where
  -- ---- threads and blocks
  pub inside_is : (c : C) (t : ℕ) → S.inside c t ≡ is_inside (place c t)
  pub holds_first : Holds S.start
  pub holds_on : (c d : C) (m : M) → Holds c → S.step c m ≡ Some d → Holds d
  -- a step leaves every other thread where it stands
  pub others_stay : (c d : C) (m : M) (t : ℕ) → Holds c → S.step c m ≡ Some d → S.mover m ≢ t → place d t ≡ place c t
  -- what stands late stays late, or its block ends
  pub late_stays : (c d : C) (m : M) → Holds c → S.step c m ≡ Some d → place c (S.mover m) ≡ Late → place d (S.mover m) ≢ Early
  -- ---- right movers: a step that leaves its thread early
  -- goes behind the next step of another thread
  pub goes_behind : (c d e : C) (m n : M)
      → Holds c → S.step c m ≡ Some d → S.step d n ≡ Some e → S.mover m ≢ S.mover n → place d (S.mover m) ≡ Early → Exchanged S.steps c m n e
  -- and what fails behind it failed before
  pub failed_before : (c d : C) (m : M) (t : ℕ)
      → Holds c → S.step c m ≡ Some d → S.mover m ≢ t → place d (S.mover m) ≡ Early → S.fails d t ≡ true → S.fails c t ≡ true
  -- ---- left movers: a step of a thread that stands late
  -- goes before the last step of another thread
  pub goes_before : (c d e : C) (m n : M)
      → Holds c → S.step c m ≡ Some d → S.step d n ≡ Some e → S.mover m ≢ S.mover n → place d (S.mover n) ≡ Late → Exchanged S.steps c m n e
  -- where its thread fails behind a step of another, it failed before it
  pub late_failed_before : (c d : C) (m : M) (t : ℕ)
      → Holds c → S.step c m ≡ Some d → S.mover m ≢ t → place c t ≡ Late → S.fails d t ≡ true → S.fails c t ≡ true
  -- what fails before it fails behind it
  pub fails_on : (c d : C) (m : M) (t : ℕ)
      → Holds c → S.step c m ≡ Some d → S.mover m ≢ t → place c (S.mover m) ≡ Late → S.fails c t ≡ true → S.fails d t ≡ true
  -- and there is one, unless the thread fails
  pub late_steps : (c : C) (t : ℕ)
      → Holds c → place c t ≡ Late → S.fails c t ≡ false → (m : M) × (d : C) × (S.mover m ≡ t) × (S.step c m ≡ Some d)
  -- ---- a block whose steps stand together behind a block run
  -- its thread doesn't fail
  pub safe_inside : (ms : List M) (t : ℕ) (c : C) → Staged S ms (Some t) c → S.fails c t ≡ false
  -- and its steps come to an end
  pub ends_inside : (ms : List M) (t : ℕ) (c : C) → Staged S ms (Some t) c → place c t ≡ Late → (n : ℕ) × Within S place t n c
