-- The reduction of a layer's program to runs block by block, where the blocks are those of the procedures of the layer above.
-- (Lipton, Reduction: a method of proving properties of parallel programs, 1975; Hawblitzel, Petrank, Qadeer, Tasiran, CAV 2015.)
use Rattle.std.specs.Prelude.{ℕ, ◌≡◌, Bool, false, List, map, Some, slice_get}
use Rattle.civl_bits.specs.declared.value.Value.{Value}
use Rattle.civl_tree.specs.declared.program.Program.{Program}
use Rattle.civl_firing.specs.declared.store.Store.{Store}
use Rattle.civl_meaning.specs.declared.config.Move.{Move}
use Rattle.civl_meaning.specs.declared.config.Running.{Running}
use Rattle.civl_meaning.specs.declared.config.Config as meaning
use Rattle.civl_meaning.specs.Failing.{CanFail}
use Rattle.civl_meaning.specs.Layers.{program_at}
use Rattle.civl_reduction.specs.interleavings.Systems.{System}
use Rattle.civl_reduction.specs.interleavings.Runs.{Staged, BlocksFail}
use Rattle.civl_reduction.specs.interleavings.Reduction.{Late, Within}
use Rattle.civl_reduction.specs.interleavings.Threads.{Threads, Config, system_of, fails_in, place_in}
use Rattle.civl_reduction.specs.interleavings.Threads as threads
use Rattle.civl_reduction.specs.exchanges.Interleavings.{Chosen, Call, program_threads}
use Rattle.civl_reduction.specs.blocks.Blocks.{inside}
use Rattle.civl_reduction.specs.blocks.Stands.{stands}

-- what is asked of the moves of a block run
abbrev pub Challenged : Type 0
Challenged = List Move → Bool

-- a move and a configuration of the system, as those of the program
abbrev pub plain_move : threads.Move Chosen → Move
plain_move move = record { thread = move.thread; choices = move.chosen.0 }

abbrev pub plain_config : Config Store Running → meaning.Config
plain_config config = record { store = config.store; threads = config.threads }

-- ---- the program of a layer as a system of threads

abbrev pub layer_threads : Program → ℕ → Store → Threads Store Running Call Chosen (List Value)
layer_threads program layer store = program_threads (program_at program layer) store (inside program layer)

abbrev pub layer_system : Program → ℕ → Store → Challenged → System (Config Store Running) (threads.Move Chosen)
layer_system program layer store challenged = system_of (layer_threads program layer store) (λ moves. challenged (map plain_move moves))

-- some block run of the program from this store ends failing or challenged
abbrev pub BlocksCanFail : Program → ℕ → Store → Challenged → Type 0
BlocksCanFail program layer store challenged = BlocksFail (layer_system program layer store challenged)

-- if some interleaving of the program can fail, some block run ends failing or challenged
abbrev pub Reduces : Program → ℕ → Store → Challenged → Type 0
Reduces program layer store challenged = CanFail (program_at program layer) store → BlocksCanFail program layer store challenged

-- ---- what is asked of blocks that stand together behind a block run

-- the thread of an open block doesn't fail
abbrev pub SafeInside : Program → ℕ → Store → Challenged → Type 0
SafeInside program layer store challenged =
    (moves : List (threads.Move Chosen)) (t : ℕ) (config : Config Store Running) → Staged (layer_system program layer store challenged) moves (Some t) config
    → fails_in (layer_threads program layer store) config.store (slice_get config.threads t) ≡ false

-- where it stands late, its own steps leave it late a bounded number of times
abbrev pub EndsInside : Program → ℕ → Store → Challenged → Type 0
EndsInside program layer store challenged =
    (moves : List (threads.Move Chosen)) (t : ℕ) (config : Config Store Running) → Staged (layer_system program layer store challenged) moves (Some t) config
    → place_in (stands program layer) config t ≡ Late → (n : ℕ) × Within (layer_system program layer store challenged) (place_in (stands program layer)) t n config
