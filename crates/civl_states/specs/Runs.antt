-- Actions at terms: what the terms for an action's gate, guard and updates say, where those that they stand on say something.
use Rattle.std.specs.Prelude.{◌≡◌, ℕ, Bool, List, ◌++◌, map, slice_get, Some}
use Rattle.civl_bits.specs.declared.value.Value.{Value}
use Rattle.civl_tree.specs.declared.expr.Sort.{Sort}
use Rattle.civl_tree.specs.declared.action.Action.{Action}
use Rattle.civl_tree.specs.declared.program.Program.{Program}
use Rattle.civl_firing.specs.declared.store.Store.{Store}
use Rattle.civl_firing.specs.Fired.{gate_holds, guard_holds, store_after, outs_after}
use Rattle.civl_terms.specs.declared.node.Node.{Node}
use Rattle.civl_actions.specs.declared.made.Instance.{Instance}
use Rattle.civl_actions.specs.Scopes.{AreOf}
use Rattle.civl_states.specs.formula_parts.Said.{Env, IsTest}
use Rattle.civl_states.specs.formula_parts.Lists.{AreSaid}
use Rattle.civl_states.specs.declared.invoked.Invoked.{Invoked}
use Rattle.civl_states.specs.Stores.{AreStore}
use Rattle.civl_meaning.specs.Config.{choice_sorts}

abbrev pub param_sorts : Action → List Sort
param_sorts a = map (λ p. p.sort) a.params

abbrev pub out_sorts : Action → List Sort
out_sorts a = map (λ p. p.sort) a.outs

-- those of its parameters and its choices
abbrev pub instance_sorts : Action → List Sort
instance_sorts a = param_sorts a ++ choice_sorts a

-- an action of the program, with terms of the sorts of its parameters and its choices
pub record IsReady (ns : List Node) (program : Program) (x : Invoked) : Type 0 where
  pub action : Action
  pub is : slice_get program.actions x.action ≡ Some action
  pub inputs : AreOf ns x.inputs (param_sorts action)
  pub choices : AreOf ns x.choices (choice_sorts action)

-- an action of the program, with terms of the sorts of its parameters
pub record HasInputs (ns : List Node) (program : Program) (number : ℕ) (inputs : List ℕ) : Type 0 where
  pub action : Action
  pub is : slice_get program.actions number ≡ Some action
  pub sorted : AreOf ns inputs (param_sorts action)

-- this action, with terms that say these values
pub record IsInvoked (ns : List Node) (program : Program) (x : Invoked) (a : Action) (i c : Env → List Value) : Type 0 where
  pub is : slice_get program.actions x.action ≡ Some a
  pub inputs : AreSaid ns x.inputs (param_sorts a) i
  pub choices : AreSaid ns x.choices (choice_sorts a) c

-- ---- one action in a store

-- the terms say what the action does at these values
pub record IsRun (ns : List Node) (program : Program) (a : Action) (made : Instance) (g : Env → Store) (i c : Env → List Value) : Type 0 where
  pub gate : IsTest ns made.gate (λ env. gate_holds program.globals (g env) a (i env))
  pub guard : IsTest ns made.guard (λ env. guard_holds program.globals (g env) a (i env) (c env))
  pub store : AreStore ns program made.globals (λ env. store_after program.globals (g env) a (i env) (c env))
  pub outs : AreSaid ns made.outs (out_sorts a) (λ env. outs_after program.globals (g env) a (i env) (c env))

-- whatever the terms of the store and of the action say, the new terms say what comes of it
abbrev pub Runs : List Node → List Node → Program → List ℕ → Invoked → Instance → Type 0
Runs old new program globals x made =
    (a : Action) (g : Env → Store) (i c : Env → List Value) → AreStore old program globals g → IsInvoked old program x a i c → IsRun new program a made g i c

-- the new term says this of the store and of the inputs of an action, whatever they are
abbrev pub TellsInputs : List Node → List Node → Program → List ℕ → ℕ → List ℕ → (Store → Action → List Value → Bool) → ℕ → Type 0
TellsInputs old new program globals number inputs says id =
    (b : Action) (g : Env → Store) (j : Env → List Value) → AreStore old program globals g → slice_get program.actions number ≡ Some b → AreSaid old inputs (param_sorts b) j
    → IsTest new id (λ env. says (g env) b (j env))

-- whether the action's gate holds
abbrev pub TellsGate : List Node → List Node → Program → List ℕ → ℕ → List ℕ → ℕ → Type 0
TellsGate old new program globals number inputs id = TellsInputs old new program globals number inputs (gate_holds program.globals) id
