-- What actions leave, one alone and two behind each other (gated atomic actions: Hawblitzel, Petrank, Qadeer, Tasiran, CAV 2015).
use Rattle.std.specs.Prelude.{ℕ, if◌then◌else◌, List, Option, None, option_map, option_and_then}
use Rattle.civl_bits.specs.declared.value.Value.{Value}
use Rattle.civl_tree.specs.declared.program.Program.{Program}
use Rattle.civl_firing.specs.declared.store.Store.{Store}
use Rattle.civl_conditions.specs.Values.{Invoked}
use Rattle.civl_conditions.specs.Movers.{gate_of, fires_of}
use Rattle.civl_clashes.specs.declared.violations.Instance.{Instance}
use Rattle.civl_clashes.specs.declared.violations.Effect.{Effect}
use Rattle.civl_clashes.specs.declared.violations.Pair.{Pair}
use Rattle.civl_clashes.specs.declared.violations.Order.{Order}

-- the action with this number, with these values
abbrev pub instance : ℕ → Invoked → Instance
instance number x = record { action = number; inputs = x.inputs; chosen = x.chosen }

-- a store and two actions by their numbers
abbrev pub pair : Store → ℕ → Invoked → ℕ → Invoked → Pair
pair g m x n y = record { store = g; first = instance m x; second = instance n y }

abbrev pub effect : Store × List Value → Effect
effect a = record { store = a.0; outs = a.1 }

-- what an action leaves, where its guard is true
abbrev pub effect_of : Program → Store → Invoked → Option Effect
effect_of program g x = option_map effect (fires_of program g x)

abbrev pub order : Effect → Effect → Order
order a b = record { first = a; second = b }

-- behind what was left, an action whose gate and guard are true there
abbrev pub order_behind : Program → Invoked → Effect → Option Order
order_behind program y a = if gate_of program a.store y then option_map (order a) (effect_of program a.store y) else None

-- x, and then y with a true gate
abbrev pub order_of : Program → Store → Invoked → Invoked → Option Order
order_of program g x y = option_and_then (order_behind program y) (effect_of program g x)
