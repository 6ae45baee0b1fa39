-- What holds beside block runs of a checked program: where no block is open all is calm, and where one is, it is open as the
-- conditions have it; so no thread fails inside a block. (Lipton, Reduction: a method of proving properties of parallel
-- programs, 1975; Hawblitzel, Petrank, Qadeer, Tasiran, CAV 2015; Kragl, Qadeer, CAV 2018.)
use Rattle.std.specs.Prelude.{ℕ, ◌≡◌, List, map, Option, None, Some}
use Rattle.civl_tree.specs.declared.program.Program.{Program}
use Rattle.civl_firing.specs.declared.store.Store.{Store}
use Rattle.civl_meaning.specs.declared.config.Running.{Running}
use Rattle.civl_reduction.specs.interleavings.Runs.{Staged}
use Rattle.civl_reduction.specs.interleavings.Threads.{Config, Move}
use Rattle.civl_reduction.specs.exchanges.Interleavings.{Chosen}
use Rattle.civl_reduction.specs.checked.Checked.{IsChecked}
use Rattle.civl_reduction.specs.blocks.Reduces.{plain_move, plain_config, layer_system, SafeInside}
use Rattle.civl_reduction.specs.blocks.Shadow.{Shadowed, shadowed}
use Rattle.civl_reduction.specs.blocks.Challenged.{challenged}
use Rattle.civl_reduction.specs.staged.Calm.{AllIsCalm}
use Rattle.civl_reduction.specs.staged.Opened.{BlockIsOpen, StandsThere}

-- where the block of this thread is open, or none is
abbrev pub Beside : Program → ℕ → Shadowed → Option ℕ → Type 0
Beside program layer s None = AllIsCalm program layer s
Beside program layer s (Some t) = (o : BlockIsOpen program layer s t) × StandsThere o

-- a block run of these moves that isn't challenged, and the first steps of a block behind it: the shadow beside it
pub record StageIsBeside (program : Program) (layer : ℕ) (store : Store) (moves : List (Move Chosen)) (open_block : Option ℕ) (config : Config Store Running) : Type 0 where
  pub config_is : (shadowed program layer store (map plain_move moves)).config ≡ plain_config config
  pub beside : Beside program layer (shadowed program layer store (map plain_move moves)) open_block

abbrev pub StagesAreBeside : Type 0
StagesAreBeside =
    (program : Program) (layer : ℕ) (store : Store) (moves : List (Move Chosen)) (open_block : Option ℕ) (config : Config Store Running)
    → IsChecked program layer store → Staged (layer_system program layer store (challenged program layer store)) moves open_block config → StageIsBeside program layer store moves open_block config

-- the thread of an open block doesn't fail
abbrev pub CheckedAreSafeInside : Type 0
CheckedAreSafeInside = (program : Program) (layer : ℕ) (store : Store) → IsChecked program layer store → SafeInside program layer store (challenged program layer store)
