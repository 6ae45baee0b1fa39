-- The weights of the parts of an action: the sizes of the circuits of its gate, its guard, its offers and its updates.
use Rattle.std.specs.Prelude.{ℕ, ◌+◌, List, [], ◌∷◌}
use Rattle.civl_tree.specs.declared.action.Action.{Action}
use Rattle.civl_tree.specs.declared.action.Choice.{Choice}
use Rattle.civl_tree.specs.declared.action.Update.{Update}
use Rattle.civl_tree.specs.declared.program.Program.{Program}
use Rattle.civl_tree.specs.rules.Scopes.{Scope, gate_scope, guard_scope}
use Rattle.civl_firing.specs.values.Weights.{weight_of}

-- the expressions of some updates
abbrev pub update_weights : Scope → List Update → ℕ
update_weights scope [] = 0
update_weights scope (u ∷ us) = weight_of scope u.expr + update_weights scope us

-- the offers of some choices
abbrev pub offer_weights : Scope → List Choice → ℕ
offer_weights scope [] = 0
offer_weights scope (c ∷ cs) = weight_of scope c.offer + offer_weights scope cs

abbrev pub gate_weight : Program → Action → ℕ
gate_weight program action = weight_of (gate_scope program action) action.gate

abbrev pub guard_weight : Program → Action → ℕ
guard_weight program action = weight_of (guard_scope program action) action.guard

-- (an offer sees what the gate sees)
abbrev pub offers_weight : Program → Action → ℕ
offers_weight program action = offer_weights (gate_scope program action) action.choices

abbrev pub updates_weight : Program → Action → ℕ
updates_weight program action = update_weights (guard_scope program action) action.updates

-- the weight of an action: that of its gate, its guard and its updates
abbrev pub action_weight : Program → Action → ℕ
action_weight program action = gate_weight program action + guard_weight program action + updates_weight program action
