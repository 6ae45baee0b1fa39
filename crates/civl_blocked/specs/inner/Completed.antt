-- Serves private functions: blocks that are completed by steps of their thread.
use Rattle.std.specs.Prelude.{ℕ, ◌≡◌, true, false, List, ◌++◌, length, Some, All}
use Rattle.civl_meaning.specs.declared.config.Move.{Move}
use Rattle.civl_meaning.specs.declared.config.Config.{Config}
use Rattle.civl_meaning.specs.Failing.{IsMove}
use Rattle.civl_reduction.specs.interleavings.Reduction.{Late}
use Rattle.civl_blocked.specs.declared.ground.Ground.{Ground}
use Rattle.civl_blocked.specs.declared.segment.Segment.{Segment}
use Rattle.civl_blocked.specs.declared.completing.Completed.{Completed}
use Rattle.civl_blocked.specs.declared.completing.Completed.TheVariants.{Whole, Stopped, Spent}
use Rattle.civl_reduction.specs.gathered.Offered.{AreOffered}
use Rattle.civl_blocked.specs.inner.Segments.{over, place_on, program_of}
use Rattle.civl_reduction.specs.gathered.Laws.{IsReached}

abbrev pub OfferedOn : Ground → ℕ → List Move → Config → Config → Type 0
OfferedOn g t ms c e = AreOffered (program_of g) g.layer g.store.now t ms c e

-- a configuration that is reached, in which the thread stands late
pub record StandsLate (g : Ground) (c : Config) (t : ℕ) : Type 0 where
  pub reached : IsReached (program_of g) g.layer g.store.now c
  pub late : place_on g c t ≡ Late

-- steps behind the moves, the last of which ends the block
pub record IsWhole (g : Ground) (t : ℕ) (moves : List Move) (end : Config) (s : Segment) : Type 0 where
  pub steps : List Move
  pub moves_are : s.moves.items ≡ moves ++ steps
  pub middle : Config
  pub offered : OfferedOn g t steps end middle
  pub mine : s.last.thread ≡ t
  pub last : (over g).step middle s.last ≡ Some s.end
  pub ended : (over g).inside s.end t ≡ false
  pub are_moves : All IsMove steps × IsMove s.last

-- steps behind the moves after which the thread fails
pub record IsStopped (g : Ground) (t : ℕ) (moves : List Move) (end : Config) (all : List Move) : Type 0 where
  pub steps : List Move
  pub moves_are : all ≡ moves ++ steps
  pub after : Config
  pub offered : OfferedOn g t steps end after
  pub fails : (over g).fails after t ≡ true
  pub are_moves : All IsMove steps

-- so many steps leave the block open
pub record IsSpent (g : Ground) (t count : ℕ) (moves : List Move) (end : Config) (all : List Move) : Type 0 where
  pub moves_are : all ≡ moves
  pub steps : List Move
  pub many : length steps ≡ count
  pub after : Config
  pub offered : OfferedOn g t steps end after

abbrev pub IsCompleted : Ground → ℕ → ℕ → List Move → Config → Completed → Type 0
IsCompleted g t count moves end (Whole s) = IsWhole g t moves end s
IsCompleted g t count moves end (Stopped all) = IsStopped g t moves end all.items
IsCompleted g t count moves end (Spent all) = IsSpent g t count moves end all.items
