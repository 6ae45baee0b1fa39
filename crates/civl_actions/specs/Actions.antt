-- The terms of an action and of its parts, at given terms for the globals, its parameters and its choices.
use Rattle.std.specs.Prelude.{◌≡◌, ℕ, false, List, map, slice_get, Some}
use Rattle.civl_bits.specs.declared.value.Value.{Value}
use Rattle.civl_bits.specs.declared.value.Value.TheVariants as value
use Rattle.civl_tree.specs.declared.name.Name.{Name}
use Rattle.civl_tree.specs.declared.expr.Sort.TheVariants.{Bool as Truth}
use Rattle.civl_tree.specs.declared.action.Action.{Action}
use Rattle.civl_tree.specs.declared.program.Program.{Program}
use Rattle.civl_tree.specs.rules.Names.{has_name}
use Rattle.civl_firing.specs.declared.store.Store.{Store}
use Rattle.civl_firing.specs.Fired.{gate_holds, guard_holds, offers, store_after, outs_after}
use Rattle.civl_terms.specs.declared.node.Node.{Node}
use Rattle.civl_terms.specs.Graphs.{value_at, sort_at, Fits}
use Rattle.civl_actions.specs.declared.made.Instance.{Instance}
use Rattle.civl_actions.specs.Scopes.{AreOf}

-- ---- values

-- the values of some terms, and the store of them
abbrev pub values_at : (ℕ → Value) → List Node → List ℕ → List Value
values_at env ns ids = map (value_at env ns) ids

abbrev pub store_at : (ℕ → Value) → List Node → List ℕ → Store
store_at env ns ids = record { values = values_at env ns ids }

-- ---- the parts: a new graph's terms, at terms of the old one

-- the term's value is whether the gate holds
pub record IsGate (old new : List Node) (program : Program) (action : Action) (globals inputs : List ℕ) (id : ℕ) : Type 0 where
  pub is : (env : ℕ → Value) → Fits env new → value_at env new id ≡ value.Bool (gate_holds program.globals (store_at env old globals) action (values_at env old inputs))
  pub sort : sort_at new id ≡ Some Truth

-- the term's value is whether the guard holds
pub record IsGuard (old new : List Node) (program : Program) (action : Action) (globals inputs choices : List ℕ) (id : ℕ) : Type 0 where
  pub is : (env : ℕ → Value) → Fits env new → value_at env new id ≡ value.Bool (guard_holds program.globals (store_at env old globals) action (values_at env old inputs) (values_at env old choices))
  pub sort : sort_at new id ≡ Some Truth

-- the terms' values are those that are offered for the choices, one for each
pub record AreOffers (old new : List Node) (program : Program) (action : Action) (globals inputs ids : List ℕ) : Type 0 where
  pub values : (env : ℕ → Value) → Fits env new → values_at env new ids ≡ offers program.globals (store_at env old globals) action (values_at env old inputs)
  pub sorts : AreOf new ids (map (λ c. c.sort) action.choices)

-- the terms' values are what the globals and the outputs are after the updates, which are all made at once
pub record IsChange (old new : List Node) (program : Program) (action : Action) (globals inputs choices globals_then outs_then : List ℕ) : Type 0 where
  pub store : (env : ℕ → Value) → Fits env new → store_at env new globals_then ≡ store_after program.globals (store_at env old globals) action (values_at env old inputs) (values_at env old choices)
  pub outs : (env : ℕ → Value) → Fits env new → values_at env new outs_then ≡ outs_after program.globals (store_at env old globals) action (values_at env old inputs) (values_at env old choices)
  pub global_sorts : AreOf new globals_then (map (λ g. g.sort) program.globals)
  pub out_sorts : AreOf new outs_then (map (λ p. p.sort) action.outs)

-- terms for these names, as they were wherever the name isn't one that is written
abbrev pub LeavesOthers : List Name → List Name → List ℕ → List ℕ → Type 0
LeavesOthers names written before after = (place : ℕ) (name : Name) → slice_get names place ≡ Some name → has_name written name ≡ false → slice_get after place ≡ slice_get before place

-- ---- all of them

-- the terms are those of the gate, of the guard, and of the globals and the outputs after the updates
pub record IsInstance (old new : List Node) (program : Program) (action : Action) (globals inputs choices : List ℕ) (made : Instance) : Type 0 where
  pub gate : IsGate old new program action globals inputs made.gate
  pub guard : IsGuard old new program action globals inputs choices made.guard
  pub change : IsChange old new program action globals inputs choices made.globals made.outs
