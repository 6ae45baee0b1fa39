-- The scopes of a program that keeps the static rules have values of the sorts that the rules give their names; so each
-- expression of an action has a value of the sort that its place needs.
use Rattle.std.specs.Prelude.{ℕ, ◌≡◌, List, Some, slice_get}
use Rattle.civl_bits.specs.declared.value.Value.{Value}
use Rattle.civl_tree.specs.declared.action.Action.{Action}
use Rattle.civl_tree.specs.declared.expr.Sort.TheVariants.{Bool as Truth}
use Rattle.civl_tree.specs.declared.program.Proc.{Proc}
use Rattle.civl_tree.specs.declared.program.Program.{Program}
use Rattle.civl_tree.specs.rules.Scopes.{body_scope, gate_scope, guard_scope}
use Rattle.civl_tree.specs.rules.Uses.{param_sorts}
use Rattle.civl_tree.specs.rules.Rules.{Keeps}
use Rattle.civl_tree.specs.rules.Typing.{typing_rules}
use Rattle.civl_firing.specs.values.Values.{HasSort, HaveSorts}
use Rattle.civl_firing.specs.declared.store.Store.{Store}
use Rattle.civl_firing.specs.Eval.{value_of}
use Rattle.civl_firing.specs.Fired.{offers}
use Rattle.civl_firing.specs.Stores.{IsStore}
use Rattle.civl_firing.specs.Sorts.{IsSorted}
use Rattle.civl_firing.specs.Scope.{frame_values, gate_values, guard_values}
use Rattle.civl_meaning.specs.Config.{frame_sorts, choice_sorts}

-- an action of a program that keeps the static rules, with a store of the globals' sorts and inputs of its parameters'
pub record Given (program : Program) (action : Action) (store : Store) (inputs : List Value) : Type 0 where
  pub rules : Keeps typing_rules program
  pub place : ℕ
  pub there : slice_get program.actions place ≡ Some action
  pub store_fits : IsStore program.globals store
  pub inputs_fit : HaveSorts inputs (param_sorts action.params)

-- ---- scopes

-- that of an action's gate and offers
abbrev pub GateIsSorted : Type 0
GateIsSorted =
    (program : Program) (action : Action) (store : Store) (inputs : List Value) →
    Given program action store inputs → IsSorted (gate_values program.globals store action inputs) (gate_scope program action)

-- that of its guard and updates
abbrev pub GuardIsSorted : Type 0
GuardIsSorted =
    (program : Program) (action : Action) (store : Store) (inputs chosen : List Value) →
    Given program action store inputs → HaveSorts chosen (choice_sorts action) → IsSorted (guard_values program.globals store action inputs chosen) (guard_scope program action)

-- that of a procedure's statements
abbrev pub BodyIsSorted : Type 0
BodyIsSorted =
    (program : Program) (place : ℕ) (proc : Proc) (locals : List Value) →
    Keeps typing_rules program → slice_get program.procs place ≡ Some proc → HaveSorts locals (frame_sorts proc) → IsSorted (frame_values program.globals proc locals) (body_scope program proc)

-- ---- values

-- what is offered for an action's choices has their sorts
abbrev pub OffersAreSorted : Type 0
OffersAreSorted =
    (program : Program) (action : Action) (store : Store) (inputs : List Value) →
    Given program action store inputs → HaveSorts (offers program.globals store action inputs) (choice_sorts action)

-- its gate and its guard are bools
abbrev pub GateIsBool : Type 0
GateIsBool =
    (program : Program) (action : Action) (store : Store) (inputs : List Value) →
    Given program action store inputs → HasSort (value_of (gate_values program.globals store action inputs) action.gate) Truth

abbrev pub GuardIsBool : Type 0
GuardIsBool =
    (program : Program) (action : Action) (store : Store) (inputs chosen : List Value) →
    Given program action store inputs → HaveSorts chosen (choice_sorts action) → HasSort (value_of (guard_values program.globals store action inputs chosen) action.guard) Truth
