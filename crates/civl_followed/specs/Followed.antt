-- A block run of a layer's program that ends failing or challenged, and a failing run of the program of the next layer that
-- follows it. (Refinement by blocks between yields: Hawblitzel, Petrank, Qadeer, Tasiran, CAV 2015; Kragl, Qadeer, CAV 2018.
-- Forward simulation: Lynch, Vaandrager, 1995.)
use Rattle.std.specs.Prelude.{ℕ, ◌+◌, ◌≤◌, ◌≡◌, Bool, true, false, List, [], ◌∷◌, length, map, slice_get, IsTrue, All, ◌⊎◌}
use Rattle.std.specs.Option.{option_map_or}
use Rattle.civl_tree.specs.declared.program.Program.{Program}
use Rattle.civl_firing.specs.declared.store.Store.{Store}
use Rattle.civl_meaning.specs.declared.config.Config as meaning
use Rattle.civl_meaning.specs.declared.config.Move.{Move}
use Rattle.civl_meaning.specs.declared.config.Running.{Running}
use Rattle.civl_meaning.specs.Failing.{IsMove, is_failing}
use Rattle.civl_meaning.specs.Layers.{program_at}
use Rattle.civl_meaning.specs.Run.{RunsTo}
use Rattle.civl_meaning.specs.Step.{start, step_of}
use Rattle.civl_reduction.specs.interleavings.Systems.{Failing}
use Rattle.civl_reduction.specs.interleavings.Runs.{IsBlockRun}
use Rattle.civl_reduction.specs.interleavings.Threads.{Config, stepping_of}
use Rattle.civl_reduction.specs.interleavings.Threads as threads
use Rattle.civl_reduction.specs.exchanges.Interleavings.{Chosen}
use Rattle.civl_reduction.specs.blocks.Blocks.{inside}
use Rattle.civl_reduction.specs.blocks.Reduces.{plain_move, layer_threads, layer_system}
use Rattle.civl_reduction.specs.blocks.Challenged.{challenged}

-- ---- how many blocks there are

-- the thread with this number stands inside a block
abbrev pub inside_at : Program → ℕ → meaning.Config → ℕ → Bool
inside_at program layer config t = option_map_or (inside program layer) (slice_get config.threads t) false

abbrev pub ended : Bool → ℕ
ended true = 0
ended false = 1

-- the moves behind which their thread is inside no block
abbrev pub block_count : Program → ℕ → List Move → meaning.Config → ℕ
block_count program layer [] c = 0
block_count program layer (m ∷ ms) c =
    ended (inside_at program layer (step_of (program_at program layer) c m).1 m.thread) + block_count program layer ms (step_of (program_at program layer) c m).1

-- ---- what is followed, and what follows it

-- from this store the moves are a block run of the layer's program, which ends failing or challenged
pub record FailsInBlocks (program : Program) (layer : ℕ) (store : Store) (moves : List Move) : Type 0 where
  pub chosen : List (threads.Move Chosen)
  pub moves_are : map plain_move chosen ≡ moves
  pub end : Config Store Running
  pub run : IsBlockRun (layer_system program layer store (challenged program layer store)) chosen end
  pub fails : Failing (stepping_of (layer_threads program layer store)) end ⊎ (challenged program layer store moves ≡ true)

-- from there these run in the program of the next layer to a failing configuration, and there are at most as many as the block
-- run has blocks
pub record FollowsBlocks (program : Program) (layer : ℕ) (store : Store) (moves followed : List Move) : Type 0 where
  pub are_moves : All IsMove followed
  pub end : meaning.Config
  pub runs : RunsTo (program_at program (layer + 1)) followed (start (program_at program (layer + 1)) store) end
  pub fails : IsTrue (is_failing (program_at program (layer + 1)) end)
  pub few : length followed ≤ block_count program layer moves (start (program_at program layer) store)
