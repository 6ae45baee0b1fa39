-- A sink in memory that never fails.
use Rattle.std.specs.Prelude.{ℕ, ◌-◌, min, List, length}

-- the bytes taken so far, how many it takes in all, and how often it took nothing of a piece that isn't empty
pub record PlainSinkState : Type 0 where
  pub written : List ℕ
  pub room : ℕ
  pub stalls : ℕ

-- how many bytes of a piece of this size there is room for
abbrev pub accepted : PlainSinkState → ℕ → ℕ
accepted sink size = min size (sink.room - length sink.written)
