-- Serves private functions: the first moves of a thread behind which something fails.
use Rattle.std.specs.Prelude.{ℕ, ◌+◌, ◌≤◌, ◌≡◌, ◌≢◌, drop, get_or, List, length, All}
use Rattle.civl_meaning.specs.declared.config.Move.{Move}
use Rattle.civl_meaning.specs.declared.config.Config.{Config}
use Rattle.civl_meaning.specs.Failing.{IsMove}
use Rattle.civl_reduction.specs.interleavings.Systems.{System}
use Rattle.civl_blocked.specs.inner.Segments.{FailsTo}
use Rattle.civl_reduction.specs.gathering.Gathered.{own, counted, FailsAlong}

-- it is no longer than these moves, and fails; all its moves are of the thread's block
pub record IsFront (S : System Config Move) (t : ℕ) (ms : List Move) (from : Config) (front : List Move) : Type 0 where
  pub fails : FailsTo S front from
  pub short : length front ≤ length ms
  pub own : counted S t front from ≡ 0
  pub are_moves : All IsMove ms → All IsMove front

-- so it is of the moves behind this place, and the one there is of another thread
pub record IsFrontBehind (S : System Config Move) (t : ℕ) (ms : List Move) (at : ℕ) (from : Config) (front : List Move) : Type 0 where
  pub other : (m : Move) → m ≡ get_or ms at m → m.thread ≢ t
  pub behind : IsFront S t (drop (at + 1) ms) from front

abbrev pub FailsBehindOther : System Config Move → ℕ → List Move → ℕ → Config → Type 0
FailsBehindOther S t ms at from = ((m : Move) → m ≡ get_or ms at m → m.thread ≢ t) × FailsAlong S t (own S.mover t (drop (at + 1) ms)) from
