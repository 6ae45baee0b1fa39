-- Between blocks no thread fails in a procedure whose blocks are open behind block runs: its next step begins a block. (Blocks
-- between yields: Hawblitzel, Petrank, Qadeer, Tasiran, CAV 2015; Kragl, Qadeer, CAV 2018.)
use Rattle.std.specs.Prelude.{ℕ, ◌+◌, ◌≡◌, false, List, None, Some, slice_get}
use Rattle.civl_tree.specs.declared.program.Proc.{Proc}
use Rattle.civl_tree.specs.declared.program.Program.{Program}
use Rattle.civl_firing.specs.declared.store.Store.{Store}
use Rattle.civl_meaning.specs.declared.config.Activation.{Activation}
use Rattle.civl_meaning.specs.declared.config.Running.{Running}
use Rattle.civl_reduction.specs.interleavings.Runs.{Staged}
use Rattle.civl_reduction.specs.interleavings.Threads.{Config, Move, fails_in}
use Rattle.civl_reduction.specs.exchanges.Interleavings.{Chosen}
use Rattle.civl_reduction.specs.checked.Checked.{IsChecked}
use Rattle.civl_reduction.specs.blocks.Reduces.{layer_threads, layer_system}
use Rattle.civl_reduction.specs.blocks.Cuts.{frame_at}
use Rattle.civl_reduction.specs.blocks.Challenged.{challenged}

-- behind a block run that isn't challenged a thread in a frame of a procedure of the layer above doesn't fail
abbrev pub BetweenAreSafe : Type 0
BetweenAreSafe =
    (program : Program) (layer : ℕ) (store : Store) (moves : List (Move Chosen)) (config : Config Store Running) (t : ℕ) (f : Proc × Activation) → IsChecked program layer store
    → Staged (layer_system program layer store (challenged program layer store)) moves None config → frame_at program (layer + 1) config.threads t ≡ Some f
    → fails_in (layer_threads program layer store) config.store (slice_get config.threads t) ≡ false
