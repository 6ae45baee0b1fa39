-- Linear permissions stay apart in every run. (Kragl, Qadeer, Layered concurrent programs, CAV 2018.)
use Rattle.std.specs.Prelude.{ℕ, ◌≡◌, ◌≤◌, false, List, map, Some, slice_get, IsTrue, All}
use Rattle.civl_bits.specs.declared.value.Value.{Value}
use Rattle.civl_firing.specs.values.Values.{HaveSorts}
use Rattle.civl_tree.specs.declared.action.Action.{Action}
use Rattle.civl_tree.specs.declared.program.Program.{Program}
use Rattle.civl_tree.specs.SpellingDomain.{allows_program}
use Rattle.civl_tree.specs.rules.Uses.{param_sorts}
use Rattle.civl_tree.specs.rules.Rules.{Keeps}
use Rattle.civl_firing.specs.declared.store.Store.{Store}
use Rattle.civl_firing.specs.Stores.{IsStore}
use Rattle.civl_meaning.specs.declared.config.Move.{Move}
use Rattle.civl_meaning.specs.declared.config.Config.{Config}
use Rattle.civl_meaning.specs.Step.{start}
use Rattle.civl_meaning.specs.Run.{RunsTo}
use Rattle.civl_meaning.specs.Failing.{IsMove}
use Rattle.civl_meaning.specs.Layers.{program_at}
use Rattle.civl_meaning.specs.Initial.{IsInitial}
use Rattle.civl_layers.specs.Layered.{IsLayered}
use Rattle.civl_linear.specs.LinearRules.{linear_rules}
use Rattle.civl_conditions.specs.Movers.{loses}
use Rattle.civl_reduction.specs.permissions.Owned.{IsParted}

-- what K2 says of an action, for all stores, inputs and choices of their sorts: what comes out is disjoint, and was among
-- what went in
abbrev pub KeepsPermissions : Program → Action → Type 0
KeepsPermissions program action =
    (store : Store) (inputs chosen : List Value) → IsStore program.globals store → HaveSorts inputs (param_sorts action.params) → HaveSorts chosen (map (λ c. c.sort) action.choices)
    → loses program store (record { action = action; inputs = inputs; chosen = chosen }) ≡ false

-- In a program that the grammar can write and that keeps the rules up to E43, where K2 holds of each action whose first layer
-- is this one or lower, every configuration that a run of this layer's program reaches from an initial store is parted.
abbrev pub PermissionsStay : Type 0
PermissionsStay =
    (program : Program) (layer : ℕ) (store : Store) (moves : List Move) (config : Config)
    → IsTrue (allows_program program) → IsLayered program → Keeps linear_rules program
    → ((number : ℕ) (action : Action) → slice_get program.actions number ≡ Some action → action.first ≤ layer → KeepsPermissions program action)
    → IsInitial program store → All IsMove moves → RunsTo (program_at program layer) moves (start (program_at program layer) store) config → IsParted program config
