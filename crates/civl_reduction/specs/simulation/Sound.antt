-- What is asked of the blocks of a layer's procedures along block runs, so that the program of the layer follows them.
-- (Hawblitzel, Petrank, Qadeer, Tasiran, CAV 2015; Kragl, Qadeer, CAV 2018.)
use Rattle.std.specs.Prelude.{ℕ, ◌+◌, ◌≡◌, false, List, [], ◌∷◌, ◌++◌, map, None, Some, slice_get}
use Rattle.civl_tree.specs.declared.program.Proc.{Proc}
use Rattle.civl_tree.specs.declared.program.Program.{Program}
use Rattle.civl_firing.specs.declared.store.Store.{Store}
use Rattle.civl_meaning.specs.declared.config.Activation.{Activation}
use Rattle.civl_meaning.specs.declared.config.Running.{Running}
use Rattle.civl_reduction.specs.interleavings.Runs.{Staged, Opens}
use Rattle.civl_reduction.specs.interleavings.Threads.{Config, Move, fails_in}
use Rattle.civl_reduction.specs.exchanges.Interleavings.{Chosen}
use Rattle.civl_reduction.specs.blocks.Reduces.{plain_move, layer_threads, layer_system, SafeInside, EndsInside}
use Rattle.civl_reduction.specs.blocks.Cuts.{frame_at}
use Rattle.civl_reduction.specs.blocks.Shadow.{shadowed}
use Rattle.civl_reduction.specs.blocks.Challenged.{challenged}
use Rattle.civl_reduction.specs.simulation.Refined.{BlockIsRefined}

-- each block, or step outside the layer's procedures, behind a block run that isn't challenged
abbrev pub BlocksAreRefined : Program → ℕ → Store → Type 0
BlocksAreRefined program layer store =
    (moves block : List (Move Chosen)) (last : Move Chosen) (from before to : Config Store Running)
    → Staged (layer_system program layer store (challenged program layer store)) moves None from
    → Opens (layer_system program layer store (challenged program layer store)) last.thread block from before
    → (layer_system program layer store (challenged program layer store)).step before last ≡ Some to
    → (layer_system program layer store (challenged program layer store)).inside to last.thread ≡ false
    → BlockIsRefined program layer (shadowed program layer store (map plain_move moves)) (shadowed program layer store (map plain_move (moves ++ block)))
    (shadowed program layer store (map plain_move (moves ++ (block ++ last ∷ [])))) last.thread

-- behind such a run a thread that stands in a procedure of the layer doesn't fail
abbrev pub SafeBetween : Program → ℕ → Store → Type 0
SafeBetween program layer store =
    (moves : List (Move Chosen)) (config : Config Store Running) (t : ℕ) (f : Proc × Activation)
    → Staged (layer_system program layer store (challenged program layer store)) moves None config
    → frame_at program (layer + 1) config.threads t ≡ Some f → fails_in (layer_threads program layer store) config.store (slice_get config.threads t) ≡ false

-- all that is asked of the blocks of a layer's procedures, in runs from this store
pub record BlocksAreSound (program : Program) (layer : ℕ) (store : Store) : Type 0 where
  pub safe_inside : SafeInside program layer store (challenged program layer store)
  pub ends_inside : EndsInside program layer store (challenged program layer store)
  pub safe_between : SafeBetween program layer store
  pub refined : BlocksAreRefined program layer store
