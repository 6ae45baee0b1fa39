-- The moves of one thread among those of a run, gathered at its front. (Lipton, Reduction: a method of proving properties of
-- parallel programs, 1975.)
use Rattle.std.specs.Prelude.{ℕ, ◌+◌, ◌≡◌, ◌≢◌, true, nat_eq, if◌then◌else◌, List, [], ◌∷◌, length, Some, ◌⊎◌}
use Rattle.std.specs.Option.{option_map_or}
use Rattle.civl_reduction.specs.interleavings.Systems.{Failing, System}
use Rattle.civl_reduction.specs.interleavings.Runs.{SystemRuns, Opens}
use Rattle.civl_reduction.specs.interleavings.Reduction.{Place, Early}

-- the moves of the thread with this number, and those of the others
abbrev pub own : {M : Type 0} → (M → ℕ) → ℕ → List M → List M
own mover t [] = []
own mover t (m ∷ ms) = if nat_eq (mover m) t then m ∷ own mover t ms else own mover t ms

abbrev pub others : {M : Type 0} → (M → ℕ) → ℕ → List M → List M
others mover t [] = []
others mover t (m ∷ ms) = if nat_eq (mover m) t then others mover t ms else m ∷ others mover t ms

-- some of these moves of thread t, the first ones, one at least, lead to a failing configuration; each but the last of them
-- leaves it inside a block
abbrev pub FailsBehind : {C M : Type 0} → System C M → ℕ → List M → C → Type 0
FailsBehind S t [] c = ⊥
FailsBehind {C} S t (m ∷ ms) c = (d : C) × (S.step c m ≡ Some d) × (Failing S.steps d ⊎ ((S.inside d t ≡ true) × FailsBehind S t ms d))

-- so it is, or this configuration fails
abbrev pub FailsAlong : {C M : Type 0} → System C M → ℕ → List M → C → Type 0
FailsAlong S t ms c = Failing S.steps c ⊎ FailsBehind S t ms c

-- the move runs, and if it is of thread t leaves it inside its block
abbrev pub Passes : {C M : Type 0} → System C M → ℕ → M → C → C → Type 0
Passes S t m c d = (S.step c m ≡ Some d) × (S.mover m ≡ t → S.inside d t ≡ true)

-- along these moves comes one of another thread, without which, and without all others behind it, something fails; those of
-- thread t before it leave it inside its block
abbrev pub FailsSooner : {C M : Type 0} → System C M → ℕ → List M → C → Type 0
FailsSooner S t [] c = ⊥
FailsSooner {C} S t (m ∷ ms) c =
    ((S.mover m ≢ t) × FailsAlong S t (own S.mover t ms) c) ⊎ ((d : C) × Passes S t m c d × FailsSooner S t ms d)

-- the thread's moves come first, each of which leaves it inside its block, then its last one, then those of the others
pub record IsGathered (C M : Type 0) (S : System C M) (t : ℕ) (ms : List M) (m : M) (c e : C) : Type 0 where
  pub middle : C
  pub after : C
  pub opens : Opens S t (own S.mover t ms) c middle
  pub last : S.step middle m ≡ Some after
  pub rest : SystemRuns S.steps (others S.mover t ms) after e

-- the thread fails behind its own moves, each of which leaves it inside its block
abbrev pub FailsInside : {C M : Type 0} → System C M → ℕ → List M → C → Type 0
FailsInside {C} S t ms c = (x : C) × Opens S t (own S.mover t ms) c x × (S.fails x t ≡ true)

-- these moves run, and those of thread t leave it inside its block
abbrev pub AllPass : {C M : Type 0} → System C M → ℕ → List M → C → C → Type 0
AllPass S t [] c e = c ≡ e
AllPass {C} S t (m ∷ ms) c e = (d : C) × Passes S t m c d × AllPass S t ms d e

-- each of these moves leaves its thread early in its block
abbrev pub AreEarly : {C M : Type 0} → System C M → (C → ℕ → Place) → List M → C → C → Type 0
AreEarly S place [] c e = c ≡ e
AreEarly {C} S place (m ∷ ms) c e = (d : C) × (S.step c m ≡ Some d) × (place d (S.mover m) ≡ Early) × AreEarly S place ms d e

-- how many of these moves aren't of the block of thread t that is open; behind its end every move counts
abbrev pub counted : {C M : Type 0} → System C M → ℕ → List M → C → ℕ
counted S t [] c = 0
counted S t (m ∷ ms) c =
    option_map_or (λ d. if nat_eq (S.mover m) t then (if S.inside d t then counted S t ms d else length ms) else 1 + counted S t ms d) (S.step c m) 0

-- how many blocks these moves end: those behind which their thread is inside none
abbrev pub blocks : {C M : Type 0} → System C M → List M → C → ℕ
blocks S [] c = 0
blocks S (m ∷ ms) c = option_map_or (λ d. (if S.inside d (S.mover m) then 0 else 1) + blocks S ms d) (S.step c m) 0
