-- Runs, and runs block by block. (Interleavings of atomic blocks, as in Lamport, Schneider, Pretending atomicity, 1989.)
use Rattle.std.specs.Prelude.{ℕ, ◌≡◌, Bool, true, false, List, [], ◌∷◌, ◌++◌, Option, None, Some, ◌⊎◌}
use Rattle.civl_reduction.specs.interleavings.Systems.{Stepping, Failing, System}

-- the moves run from the first configuration to the second: each step is made
abbrev pub SystemRuns : {C M : Type 0} → Stepping C M → List M → C → C → Type 0
SystemRuns S [] c e = c ≡ e
SystemRuns {C} S (m ∷ ms) c e = (d : C) × (S.step c m ≡ Some d) × SystemRuns S ms d e

-- some run from here ends failing
abbrev pub FailsFrom : {C M : Type 0} → Stepping C M → C → Type 0
FailsFrom {C} {M} S c = (ms : List M) × (e : C) × SystemRuns S ms c e × Failing S e

abbrev pub SystemCanFail : {C M : Type 0} → Stepping C M → Type 0
SystemCanFail S = FailsFrom S S.start

-- where the block of some thread is open, only this thread may step
abbrev pub MayStep : Option ℕ → ℕ → Type 0
MayStep None t = Unit {0}
MayStep (Some u) t = t ≡ u

-- the block that is open behind a step of thread t, if that leaves it inside one
abbrev pub opened : Bool → ℕ → Option ℕ
opened false t = None
opened true t = Some t

-- the moves run, block by block, from a configuration in which the first block is open to one in which the second is
abbrev pub BlocksTo : {C M : Type 0} → System C M → Option ℕ → List M → C → Option ℕ → C → Type 0
BlocksTo S o [] c p e = (o ≡ p) × (c ≡ e)
BlocksTo {C} S o (m ∷ ms) c p e =
    (d : C) × (S.step c m ≡ Some d) × MayStep o (S.mover m) × BlocksTo S (opened (S.inside d (S.mover m)) (S.mover m)) ms d p e

-- a block run: no other thread steps between the first and the last step of a block, and no block is unfinished at the end
abbrev pub IsBlockRun : {C M : Type 0} → System C M → List M → C → Type 0
IsBlockRun S ms e = BlocksTo S None ms S.start None e

-- some block run ends failing or challenged
abbrev pub BlocksFail : {C M : Type 0} → System C M → Type 0
BlocksFail {C} {M} S = (ms : List M) × (e : C) × IsBlockRun S ms e × (Failing S.steps e ⊎ (S.challenged ms ≡ true))

-- a block run that isn't challenged, neither at its end nor at the end of a block before, and behind it the first steps of
-- one block, if one is open
pub data Staged {C M : Type 0} (S : System C M) : List M → Option ℕ → C → Type 0 where
  begun : S.challenged [] ≡ false → Staged S [] None S.start
  goes : {ms : List M} {o : Option ℕ} {c : C} (m : M) (d : C)
      → Staged S ms o c → MayStep o (S.mover m) → S.step c m ≡ Some d → S.inside d (S.mover m) ≡ true
      → Staged S (ms ++ m ∷ []) (Some (S.mover m)) d
  ends : {ms : List M} {o : Option ℕ} {c : C} (m : M) (d : C)
      → Staged S ms o c → MayStep o (S.mover m) → S.step c m ≡ Some d → S.inside d (S.mover m) ≡ false
      → S.challenged (ms ++ m ∷ []) ≡ false → Staged S (ms ++ m ∷ []) None d

-- the first steps of a block of thread t: each leaves it inside the block
abbrev pub Opens : {C M : Type 0} → System C M → ℕ → List M → C → C → Type 0
Opens S t [] c x = c ≡ x
Opens {C} S t (m ∷ ms) c x = (d : C) × (S.mover m ≡ t) × (S.step c m ≡ Some d) × (S.inside d t ≡ true) × Opens S t ms d x
