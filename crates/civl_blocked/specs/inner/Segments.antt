-- Serves private functions: stretches of moves that are gathered.
use Rattle.std.specs.Prelude.{ℕ, ◌+◌, ◌<◌, List, [], ◌∷◌, ◌++◌, length, All, ◌⊎◌}
use Rattle.civl_tree.specs.declared.program.Program.{Program}
use Rattle.civl_meaning.specs.declared.config.Move.{Move}
use Rattle.civl_meaning.specs.declared.config.Config.{Config}
use Rattle.civl_meaning.specs.Failing.{IsMove}
use Rattle.civl_meaning.specs.Table.{ArePlaces}
use Rattle.civl_reduction.specs.interleavings.Systems.{Failing, System}
use Rattle.civl_reduction.specs.interleavings.Runs.{SystemRuns}
use Rattle.civl_reduction.specs.interleavings.Reduction.{Place}
use Rattle.civl_reduction.specs.checked.Checked.{IsChecked}
use Rattle.civl_shadows.specs.Shadows.{IsLayerOf}
use Rattle.civl_reduction.specs.gathering.Gathered.{others, FailsSooner, IsGathered, counted}
use Rattle.civl_blocked.specs.declared.ground.Ground.{Ground}
use Rattle.civl_blocked.specs.declared.segment.Segment.{Segment}
use Rattle.civl_reduction.specs.gathered.Laws.{by_thread}
use Rattle.civl_reduction.specs.gathered.System.{layer_run, place_at}

-- ---- the ground

abbrev pub program_of : Ground → Program
program_of g = g.plain.now.program

abbrev pub over : Ground → System Config Move
over g = layer_run (program_of g) g.layer g.store.now

abbrev pub place_on : Ground → Config → ℕ → Place
place_on g = place_at (program_of g) g.layer

-- it is the program of a layer of a checked program, with the table of its places
pub record IsGround (g : Ground) : Type 0 where
  pub layer : IsLayerOf g.plain.now g.layer
  pub places : ArePlaces g.plain.now g.places.now
  pub checked : IsChecked (program_of g) g.layer g.store.now
  pub few : g.layer + 1 < 4294967296

-- ---- runs that fail

abbrev pub FailsTo : {C M : Type 0} → System C M → List M → C → Type 0
FailsTo {C} S ms c = (e : C) × SystemRuns S.steps ms c e × Failing S.steps e

-- ---- segments

-- the moves of this thread among a segment's are gathered at its front
abbrev pub Gathered : Ground → Config → ℕ → Segment → Type 0
Gathered g from t s = IsGathered Config Move (over g) t s.moves.items s.last from s.end

-- or something fails sooner
abbrev pub MayGather : Ground → Config → ℕ → Segment → Type 0
MayGather g from t s = Gathered g from t s ⊎ FailsSooner (over g) t (s.moves.items ++ s.last ∷ []) from

-- a list of fewer moves that fails
pub record IsShortened (S : System Config Move) (t : ℕ) (ms : List Move) (from : Config) (shorter : List Move) : Type 0 where
  pub fails : FailsTo S shorter from
  pub fewer : length shorter < length ms
  pub fewer_others : counted S t shorter from < length (others by_thread t ms)
  pub are_moves : All IsMove ms → All IsMove shorter
