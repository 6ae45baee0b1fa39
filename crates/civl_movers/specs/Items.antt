-- What goes into an action and what comes out of it: the linear globals, and its linear parameters and outputs.
use Rattle.std.specs.Prelude.{ℕ, ◌+◌, ◌^◌, List, ◌++◌}
use Rattle.civl_bits.specs.declared.value.Value.{Value}
use Rattle.civl_tree.specs.declared.action.Action.{Action}
use Rattle.civl_tree.specs.declared.program.Program.{Program}
use Rattle.civl_firing.specs.declared.store.Store.{Store}
use Rattle.civl_firing.specs.Fired.{store_after, outs_after}
use Rattle.civl_terms.specs.declared.node.Node.{Node}
use Rattle.civl_linear.specs.Modes.{is_lent}
use Rattle.civl_meaning.specs.Permissions.{of_params}
use Rattle.civl_conditions.specs.Permissions.{in_store, of_modes}
use Rattle.civl_conditions.specs.Weights.{linear_globals}
use Rattle.civl_states.specs.formula_parts.Said.{Env}
use Rattle.civl_states.specs.formula_parts.Masks.{AreCarried}
use Rattle.civl_states.specs.declared.invoked.Invoked.{Invoked}
use Rattle.civl_states.specs.declared.items.Which.TheVariants.{Linear, Lent}
use Rattle.civl_states.specs.Stores.{AreStore}
use Rattle.civl_states.specs.Runs.{IsInvoked, Runs}
use Rattle.civl_states.specs.Items.{number_of, comes_in}
use Rattle.civl_movers.specs.declared.items.Balance.{Balance}

-- what it hands back: the inputs that were lent, and the linear outputs
abbrev pub handed_back : Action → List Value → List Value → List (List ℕ)
handed_back a inputs outs = of_modes is_lent a.params inputs ++ of_params a.outs outs

-- what comes out of it: the linear globals, and what it hands back
abbrev pub goes_out : Program → Action → Store → List Value → List Value → List (List ℕ)
goes_out program a store inputs outs = in_store program store ++ handed_back a inputs outs

-- so many are handed back
abbrev pub number_back : Action → ℕ
number_back a = number_of Lent a.params + number_of Linear a.outs

-- so many go out
abbrev pub number_going : Program → Action → ℕ
number_going program a = linear_globals program + number_back a

-- the terms of an action, with what comes in and what goes out
pub record IsBalance (old new : List Node) (program : Program) (globals : List ℕ) (x : Invoked) (b : Balance) : Type 0 where
  pub runs : Runs old new program globals x b.made
  pub coming : (a : Action) (g : Env → Store) (i c : Env → List Value) → AreStore old program globals g → IsInvoked old program x a i c
      → AreCarried new (2 ^ program.permissions) b.coming (λ env. comes_in program a (g env) (i env))
  pub going : (a : Action) (g : Env → Store) (i c : Env → List Value) → AreStore old program globals g → IsInvoked old program x a i c
      → AreCarried new (2 ^ program.permissions) b.going (λ env. goes_out program a (store_after program.globals (g env) a (i env) (c env)) (i env) (outs_after program.globals (g env) a (i env) (c env)))
