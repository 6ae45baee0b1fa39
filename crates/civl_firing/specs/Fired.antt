-- Part of the claim: docs/CLAIM.md.
-- Gated atomic actions (Hawblitzel, Petrank, Qadeer, Tasiran, CAV 2015): a gate, and a transition that is a guard with
-- parallel updates.
use Rattle.std.specs.Prelude.{Bool, List, [], ◌∷◌, map, slice_set, if◌then◌else◌, Option, None, Some}
use Rattle.civl_bits.specs.declared.value.Value.{Value}
use Rattle.civl_tree.specs.declared.name.Name.{Name}
use Rattle.civl_tree.specs.declared.action.Action.{Action}
use Rattle.civl_tree.specs.declared.action.Update.{Update}
use Rattle.civl_tree.specs.declared.program.Global.{Global}
use Rattle.civl_firing.specs.declared.store.Store.{Store}
use Rattle.civl_firing.specs.declared.firing.Fired.{Fired}
use Rattle.civl_firing.specs.declared.firing.Fired.TheVariants.{GateFalse, Blocked, Moved}
use Rattle.civl_firing.specs.declared.scope.Scope.{Scope}
use Rattle.civl_firing.specs.Truth.{place_of}
use Rattle.civl_firing.specs.values.Values.{is_true, are_of}
use Rattle.civl_firing.specs.Eval.{value_of}
use Rattle.civl_firing.specs.Scope.{zeros_of_params, gate_values, guard_values}
use Rattle.civl_tree.specs.rules.Names.{global_names, param_names}

-- the value of the gate
unfoldable pub gate_holds : List Global → Store → Action → List Value → Bool
gate_holds globals store action inputs = is_true (value_of (gate_values globals store action inputs) action.gate)

-- the values that are offered for the choices
abbrev pub offers : List Global → Store → Action → List Value → List Value
offers globals store action inputs = map (λ c. value_of (gate_values globals store action inputs) c.offer) action.choices

-- whether the choices have the number and the sorts of the action's
abbrev pub choices_fit : Action → List Value → Bool
choices_fit action chosen = are_of chosen (map (λ c. c.sort) action.choices)

-- the value of the guard
abbrev pub guard_holds : List Global → Store → Action → List Value → List Value → Bool
guard_holds globals store action inputs chosen = is_true (value_of (guard_values globals store action inputs chosen) action.guard)

-- the values of these names, with each updated one replaced by its update's value in the scope, which stays
abbrev pub updated : List Name → List Value → Scope → List Update → List Value
updated names values scope [] = values
updated names values scope (u ∷ us) = updated names (slice_set values (place_of names u.target) (value_of scope u.expr)) scope us

-- the store in which all updated globals are replaced at once
abbrev pub store_after : List Global → Store → Action → List Value → List Value → Store
store_after globals store action inputs chosen =
    record { values = updated (global_names globals) store.values (guard_values globals store action inputs chosen) action.updates }

-- the outputs, which are what the updates give them
abbrev pub outs_after : List Global → Store → Action → List Value → List Value → List Value
outs_after globals store action inputs chosen =
    updated (param_names action.outs) (zeros_of_params action.outs) (guard_values globals store action inputs chosen) action.updates

-- the transition: nothing where the guard is false, and else the store and the outputs
unfoldable pub fires : List Global → Store → Action → List Value → List Value → Option (Store × List Value)
fires globals store action inputs chosen =
    if guard_holds globals store action inputs chosen
    then Some (store_after globals store action inputs chosen, outs_after globals store action inputs chosen)
    else None

abbrev pub fired_by : Option (Store × List Value) → Fired
fired_by None = Blocked
fired_by (Some p) = Moved p.0 p.1

-- what comes of an action with these inputs and choices, in a store
unfoldable pub fired : List Global → Store → Action → List Value → List Value → Fired
fired globals store action inputs chosen =
    if gate_holds globals store action inputs then fired_by (fires globals store action inputs chosen) else GateFalse
