-- The store of a layer's program with other values for the globals that the next layer introduces: actions of the layer do
-- there what they do in the store, and leave these values. (Frame properties: O'Hearn, Reynolds, Yang, 2001; introduced
-- variables: Kragl, Qadeer, Layered concurrent programs, CAV 2018.)
use Rattle.std.specs.Prelude.{ℕ, ◌≤◌, ◌≡◌, List, Some, slice_get, IsTrue}
use Rattle.civl_bits.specs.declared.value.Value.{Value}
use Rattle.civl_tree.specs.declared.action.Action.{Action}
use Rattle.civl_tree.specs.declared.program.Program.{Program}
use Rattle.civl_firing.specs.declared.store.Store.{Store}
use Rattle.civl_firing.specs.Stores.{IsStore}
use Rattle.civl_firing.specs.Fired.{gate_holds, fires}
use Rattle.civl_layers.specs.Ranges.{exists_in}
use Rattle.civl_layers.specs.Names.{action_range}
use Rattle.civl_layers.specs.Layered.{IsLayered}
use Rattle.civl_conditions.specs.Permissions.{in_store}
use Rattle.civl_reduction.specs.blocks.Shadow.{merged}

-- it has a value of its sort for each global
abbrev pub MergedFit : Type 0
MergedFit = (program : Program) (layer : ℕ) (store introduced : Store) → IsStore program.globals store → IsStore program.globals introduced → IsStore program.globals (merged program layer store introduced)

-- the linear globals have the permissions that they have in the store
abbrev pub MergedCarry : Type 0
MergedCarry =
    (program : Program) (layer : ℕ) (store introduced : Store) → IsLayered program → layer ≤ program.layers → IsStore program.globals store → IsStore program.globals introduced
    → in_store program (merged program layer store introduced) ≡ in_store program store

-- the action with this number, which exists in the layer: its gate is the same, and where it fires in the store it fires there,
-- to the store behind it with the same values
pub record ActsAsThere (program : Program) (layer : ℕ) (store introduced : Store) (action : Action) (inputs chosen : List Value) : Type 0 where
  pub gate : gate_holds program.globals (merged program layer store introduced) action inputs ≡ gate_holds program.globals store action inputs
  pub fires : (after : Store) (outs : List Value) → fires program.globals store action inputs chosen ≡ Some (after, outs)
      → fires program.globals (merged program layer store introduced) action inputs chosen ≡ Some (merged program layer after introduced, outs)

abbrev pub ActionsActAsThere : Type 0
ActionsActAsThere =
    (program : Program) (layer number : ℕ) (store introduced : Store) (action : Action) (inputs chosen : List Value)
    → IsLayered program → slice_get program.actions number ≡ Some action → IsTrue (exists_in layer (action_range action)) → IsStore program.globals store → IsStore program.globals introduced
    → ActsAsThere program layer store introduced action inputs chosen
