-- Where blocks stand together, each with all that the conditions assume, the steps of an open one come to an end. (Reduction
-- wants that a block can be completed: Lipton, 1975; ranks: Floyd, 1967.)
use Rattle.std.specs.Prelude.{ℕ, ◌+◌, ◌≡◌, List, Some, slice_get}
use Rattle.civl_tree.specs.declared.program.Proc.{Proc}
use Rattle.civl_tree.specs.declared.program.Program.{Program}
use Rattle.civl_firing.specs.declared.store.Store.{Store}
use Rattle.civl_meaning.specs.declared.config.Activation.{Activation}
use Rattle.civl_meaning.specs.declared.config.Running.{Running}
use Rattle.civl_reduction.specs.interleavings.Runs.{Staged}
use Rattle.civl_reduction.specs.interleavings.Threads.{Config, Move}
use Rattle.civl_reduction.specs.exchanges.Interleavings.{Chosen}
use Rattle.civl_reduction.specs.checked.Checked.{IsChecked}
use Rattle.civl_reduction.specs.blocks.Blocks.{frame_of_layer}
use Rattle.civl_reduction.specs.blocks.Reduces.{Challenged, layer_system, EndsInside}
use Rattle.civl_reduction.specs.staged.Measures.{IsNear}

-- the block of a thread's frame is open, as the conditions see it
abbrev pub IsOpenThere : Program → ℕ → Store → Proc × Activation → Type 0
IsOpenThere program layer store f = (n : ℕ) × IsNear program (layer + 1) f.1.procedure f.0 store f.1 n

-- so is each block that is open behind a block run
abbrev pub OpenInside : Program → ℕ → Store → Challenged → Type 0
OpenInside program layer store challenged =
    (moves : List (Move Chosen)) (t : ℕ) (config : Config Store Running) (thread : Running) (f : Proc × Activation)
    → Staged (layer_system program layer store challenged) moves (Some t) config → slice_get config.threads t ≡ Some thread → frame_of_layer program (layer + 1) thread ≡ Some f
    → IsOpenThere program layer config.store f

-- then its steps come to an end
abbrev pub OpenBlocksAreBounded : Type 0
OpenBlocksAreBounded =
    (program : Program) (layer : ℕ) (store : Store) (challenged : Challenged) → IsChecked program layer store → OpenInside program layer store challenged → EndsInside program layer store challenged
