-- A system of threads: its steps, the threads that fail, and the blocks that are to be atomic. (Lipton, Reduction: a method
-- of proving properties of parallel programs, 1975.)
use Rattle.std.specs.Prelude.{ℕ, ◌≡◌, Bool, true, List, Option}

-- C are the configurations, M the moves
pub record Stepping (C M : Type 0) : Type 0 where
  -- the first configuration
  pub start : C
  -- the number of the thread that a move moves
  pub mover : M → ℕ
  -- a step, where it is made
  pub step : C → M → Option C
  -- the thread with this number fails
  pub fails : C → ℕ → Bool

-- some thread fails
abbrev pub Failing : {C M : Type 0} → Stepping C M → C → Type 0
Failing S c = (t : ℕ) × (S.fails c t ≡ true)

-- The steps of a thread come in blocks. A step behind which its thread isn't inside a block ends a block; it may be the
-- block's only step.
pub record System (C M : Type 0) : Type 0 where
  pub steps : Stepping C M
  pub open steps use *
  -- the thread with this number stands inside a block: behind one of its steps, and before another
  pub inside : C → ℕ → Bool
  -- what is asked where the block run of these moves ends isn't met
  pub challenged : List M → Bool
