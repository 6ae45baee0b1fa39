-- Interleavings of a checked program reduce to block runs.
use Rattle.std.proofs.Common.{◌≡◌, ℕ, ◌≤◌, List, map, Some, slice_get, arith}
use Rattle.civl_bits.specs.declared.value.Value.{Value}
use Rattle.civl_tree.specs.declared.action.Action.{Action}
use Rattle.civl_tree.specs.declared.program.Program.{Program}
use Rattle.civl_firing.specs.declared.store.Store.{Store}
use Rattle.civl_meaning.specs.declared.config.Plain.{Plain}
use Rattle.civl_meaning.specs.declared.config.Running.{Running}
use Rattle.civl_meaning.specs.Layers.{program_at}
use Rattle.civl_layers.proofs.PlainPrograms.{layered_is_plain}
use Rattle.civl_reduction.specs.interleavings.Threads.{Movers, Phases, Parted}
use Rattle.civl_reduction.specs.interleavings.Threads as threads
use Rattle.civl_reduction.specs.exchanges.Interleavings.{Chosen, Call}
use Rattle.civl_reduction.proofs.exchanges.Reducing.{program_reduces}
use Rattle.civl_reduction.specs.permissions.Stay.{KeepsPermissions}
use Rattle.civl_reduction.specs.permissions.Apart.{SpawnsStandInRoots}
use Rattle.civl_reduction.proofs.mover_laws.Instance.{Right, Left, Met, Apart, are_movers}
use Rattle.civl_reduction.proofs.mover_laws.Configurations.{Holds, are_parted}
use Rattle.civl_reduction.specs.checked.Checked.{SpawnsAreInRoots, ActionsKeepPermissions, ActionsAreMovers, IsChecked}
use Rattle.civl_reduction.specs.blocks.Blocks.{inside}
use Rattle.civl_reduction.specs.blocks.Stands.{stands}
use Rattle.civl_reduction.specs.blocks.Reduces.{plain_move, layer_threads}
use Rattle.civl_reduction.specs.staged.Reduction.{CheckedReduce}
use Rattle.civl_reduction.proofs.staged.Stages.Phasing.{are_phases}

-- from what is known of checked programs
module _ (spawns_are_in_roots : SpawnsAreInRoots) (actions_keep_permissions : ActionsKeepPermissions) (actions_are_movers : ActionsAreMovers) where
  module _ (program : Program) (layer : ℕ) (store : Store) (k : IsChecked program layer store) where
    abbrev plain : Plain
    plain = program_at program layer

    pub roots : SpawnsStandInRoots program
    roots = spawns_are_in_roots program k.yields

    pub within : layer ≤ program.layers
    within = let below = k.below in omega (arith, below)

    pub keeps : (number : ℕ) (action : Action) → slice_get program.actions number ≡ Some action → action.first ≤ layer → KeepsPermissions program action
    keeps number action there low = let below = k.below in actions_keep_permissions program number action k.layered k.hold there (omega (arith, low, below))

    -- what holds in every configuration that a run reaches
    abbrev pub Held : threads.Config Store Running → Type 0
    Held = Holds program layer k.written k.layered k.linear roots within keeps store k.initial (inside program layer)

    pub movers : Movers Store Running Call Chosen (List Value) (layer_threads program layer store) Right Left (Met program layer) (Apart program layer)
    movers = are_movers plain layer k.layered (actions_are_movers program layer k.layered k.hold k.below) store (inside program layer)

    pub phases : Phases Store Running Call Chosen (List Value) (layer_threads program layer store) (stands program layer) Right Left Held
    phases = are_phases program layer k.layered (layered_is_plain program k.layered layer) k.yields store

    pub parted : Parted Store Running Call Chosen (List Value) (layer_threads program layer store) (Met program layer) (Apart program layer) Held
    parted = are_parted program layer k.written k.layered k.linear roots within keeps store k.initial (inside program layer)

  pub checked_reduce : CheckedReduce
  checked_reduce program layer store challenged k safe_inside ends_inside =
      program_reduces (program_at program layer) store (inside program layer) (stands program layer) Right Left (Met program layer) (Apart program layer) (Held program layer store k)
      (movers program layer store k) (phases program layer store k) (parted program layer store k) (λ moves. challenged (map plain_move moves)) safe_inside ends_inside
