-- For private functions alone: how the terms of an action are made: those that its expressions see, its offers and its updates.
use Rattle.std.specs.Prelude.{◌≡◌, ℕ, false, ◌+◌, ◌≤◌, List, ◌++◌, map, slice_get, take, Some}
use Rattle.civl_bits.specs.declared.value.Value.{Value}
use Rattle.civl_bits.specs.declared.value.Value.TheVariants as value
use Rattle.civl_tree.specs.declared.action.Action.{Action}
use Rattle.civl_tree.specs.declared.action.Choice.{Choice}
use Rattle.civl_tree.specs.declared.action.Param.{Param}
use Rattle.civl_tree.specs.declared.program.Program.{Program}
use Rattle.civl_tree.specs.declared.expr.Sort.TheVariants.{Bool as Truth}
use Rattle.civl_tree.specs.rules.Names.{global_names, param_names}
use Rattle.civl_tree.specs.rules.Scopes.{Scope as Sorts, guard_scope}
use Rattle.civl_firing.specs.values.ActionWeights.{update_weights, offer_weights}
use Rattle.civl_firing.specs.Eval.{value_of}
use Rattle.civl_firing.specs.Scope.{zeros_of_params}
use Rattle.civl_firing.specs.Fired.{updated}
use Rattle.civl_terms.specs.declared.node.Node.{Node}
use Rattle.civl_terms.specs.Graphs.{value_at, sort_at, Fits}
use Rattle.civl_terms.specs.Weights.{graph_weight}
use Rattle.civl_actions.specs.declared.scope.Scope.{Scope}
use Rattle.civl_actions.specs.declared.named.Named.{Named}
use Rattle.civl_actions.specs.Scopes.{AreOf, meant}
use Rattle.civl_actions.specs.Actions.{values_at}

-- the action is one of the program
abbrev pub IsActionOf : Program → Action → Type 0
IsActionOf program action = (i : ℕ) × (slice_get program.actions i ≡ Some action)

-- the terms are the zeros of these parameters
pub record AreZeros (old new : List Node) (params : List Param) (ids : List ℕ) : Type 0 where
  pub values : (env : ℕ → Value) → Fits env new → values_at env new ids ≡ zeros_of_params params
  pub sorts : AreOf new ids (map (λ p. p.sort) params)
  pub weighs : graph_weight new ≤ graph_weight old

-- the terms that an action's names stand for: these of the globals, the parameters and the choices, and the zeros of its
-- outputs; and that of `done`, which is false
pub record IsNamed (old new : List Node) (outs : List Param) (globals inputs choices : List ℕ) (named : Named) : Type 0 where
  pub all : named.values.items ≡ globals ++ (inputs ++ (choices ++ named.zeros.items))
  pub zeros_are : AreOf new named.zeros.items (map (λ p. p.sort) outs)
  pub zero_values : (env : ℕ → Value) → Fits env new → values_at env new named.zeros.items ≡ zeros_of_params outs
  pub no_sort : sort_at new named.no ≡ Some Truth
  pub no_value : (env : ℕ → Value) → Fits env new → value_at env new named.no ≡ value.Bool false
  pub weighs : graph_weight new ≤ graph_weight old

-- the terms are those of the offers of these choices
pub record AreOffered (old new : List Node) (scope : Scope) (sorts : Sorts) (choices : List Choice) (ids : List ℕ) : Type 0 where
  pub values : (env : ℕ → Value) → Fits env new → values_at env new ids ≡ map (λ c. value_of (meant env old scope) c.offer) choices
  pub are : AreOf new ids (map (λ c. c.sort) choices)
  pub weighs : graph_weight new ≤ graph_weight old + offer_weights sorts choices

-- the terms of the globals and of the outputs, after so many of the action's updates
pub record AreUpdated (old new : List Node) (scope : Scope) (program : Program) (action : Action) (count : ℕ) (globals_before outs_before globals_after outs_after : List ℕ) : Type 0 where
  pub globals : (env : ℕ → Value) → Fits env new → values_at env new globals_after ≡ updated (global_names program.globals) (values_at env old globals_before) (meant env old scope) (take count action.updates)
  pub outs : (env : ℕ → Value) → Fits env new → values_at env new outs_after ≡ updated (param_names action.outs) (values_at env old outs_before) (meant env old scope) (take count action.updates)
  pub global_sorts : AreOf new globals_after (map (λ g. g.sort) program.globals)
  pub out_sorts : AreOf new outs_after (map (λ p. p.sort) action.outs)
  pub weighs : graph_weight new ≤ graph_weight old + update_weights (guard_scope program action) (take count action.updates)
