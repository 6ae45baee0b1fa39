-- A block run, with the first steps of a block behind it: it is a run of the program, and only the thread whose block is open
-- stands inside one. (Interleavings of atomic blocks, as in Lamport, Schneider, Pretending atomicity, 1989.)
use Rattle.std.specs.Prelude.{ℕ, ◌≡◌, ◌≢◌, true, false, List, map, Option, None, Some, slice_get, All}
use Rattle.civl_tree.specs.declared.program.Program.{Program}
use Rattle.civl_firing.specs.declared.store.Store.{Store}
use Rattle.civl_meaning.specs.declared.config.Running.{Running}
use Rattle.civl_meaning.specs.Step.{start}
use Rattle.civl_meaning.specs.Run.{RunsTo}
use Rattle.civl_meaning.specs.Failing.{IsMove}
use Rattle.civl_meaning.specs.Layers.{program_at}
use Rattle.civl_meaning.specs.Config.{IsOf}
use Rattle.civl_reduction.specs.interleavings.Runs.{Staged}
use Rattle.civl_reduction.specs.interleavings.Threads.{Config, Move}
use Rattle.civl_reduction.specs.exchanges.Interleavings.{Chosen}
use Rattle.civl_reduction.specs.permissions.Owned.{IsParted}
use Rattle.civl_reduction.specs.checked.Checked.{IsChecked}
use Rattle.civl_reduction.specs.blocks.Blocks.{inside}
use Rattle.civl_reduction.specs.blocks.Reduces.{Challenged, plain_move, plain_config, layer_system}

-- the thread with this number is there, and stands inside a block
pub record StandsInside (program : Program) (layer : ℕ) (config : Config Store Running) (t : ℕ) : Type 0 where
  pub thread : Running
  pub there : slice_get config.threads t ≡ Some thread
  pub inside_one : inside program layer thread ≡ true

-- it doesn't, if it is there
abbrev pub StandsOutside : Program → ℕ → Config Store Running → ℕ → Type 0
StandsOutside program layer config t = (thread : Running) → slice_get config.threads t ≡ Some thread → inside program layer thread ≡ false

-- the thread whose block is open stands inside it, and every other one outside
abbrev pub OneIsInside : Program → ℕ → Config Store Running → Option ℕ → Type 0
OneIsInside program layer config None = (u : ℕ) → StandsOutside program layer config u
OneIsInside program layer config (Some t) = StandsInside program layer config t × ((u : ℕ) → u ≢ t → StandsOutside program layer config u)

-- what is known where these moves have led: they are moves of the program, whose run leads there too, to one of its
-- configurations, in which no permission is held twice
pub record IsStage (program : Program) (layer : ℕ) (store : Store) (moves : List (Move Chosen)) (open_block : Option ℕ) (config : Config Store Running) : Type 0 where
  pub are_moves : All IsMove (map plain_move moves)
  pub runs : RunsTo (program_at program layer) (map plain_move moves) (start (program_at program layer) store) (plain_config config)
  pub of_program : IsOf (program_at program layer) (plain_config config)
  pub parted : IsParted program (plain_config config)
  pub standing : OneIsInside program layer config open_block

abbrev pub StagesAreRuns : Type 0
StagesAreRuns =
    (program : Program) (layer : ℕ) (store : Store) (challenged : Challenged) (moves : List (Move Chosen)) (open_block : Option ℕ) (config : Config Store Running)
    → IsChecked program layer store → Staged (layer_system program layer store challenged) moves open_block config → IsStage program layer store moves open_block config
