-- Scopes that agree on names, stores that agree on globals, and the names that an action uses.
use Rattle.std.specs.Prelude.{ℕ, ◌≡◌, Bool, false, not, ◌||◌, List, [], ◌∷◌, Option, None, Some, IsTrue}
use Rattle.std.specs.List.{find, list_any}
use Rattle.civl_bits.specs.declared.value.Value.{Value}
use Rattle.civl_tree.specs.declared.name.Name.{Name}
use Rattle.civl_tree.specs.declared.action.Action.{Action}
use Rattle.civl_tree.specs.declared.program.Global.{Global}
use Rattle.civl_tree.specs.rules.Names.{same_name, has_name, targets_of}
use Rattle.civl_firing.specs.declared.store.Store.{Store}
use Rattle.civl_firing.specs.declared.scope.Scope.{Scope}
use Rattle.civl_firing.specs.Eval.{look}
use Rattle.civl_layers.specs.Ranges.{exists_in}
use Rattle.civl_layers.specs.Names.{global_range, uses}

-- the scopes give each name but these one value, plain and in `old(..)`, and `done` and `old(done)` too
pub record AgreeBut (others : Name → Bool) (s t : Scope) : Type 0 where
  pub values : (name : Name) → others name ≡ false → look s.names s.values name ≡ look t.names t.values name
  pub old : (name : Name) → others name ≡ false → look s.names s.old name ≡ look t.names t.old name
  pub done : s.done ≡ t.done
  pub old_done : s.old_done ≡ t.old_done

-- both lists have one value for each global, and the same one for those that pass the test
abbrev pub AgreeOn : (Global → Bool) → List Global → List Value → List Value → Type 0
AgreeOn test [] [] [] = Unit {0}
AgreeOn test (g ∷ gs) (v ∷ vs) (w ∷ ws) = (IsTrue (test g) → v ≡ w) × AgreeOn test gs vs ws
AgreeOn test _ _ _ = ⊥

abbrev pub StoresAgree : (Global → Bool) → List Global → Store → Store → Type 0
StoresAgree test globals s t = AgreeOn test globals s.values t.values

-- ---- use

-- a global, where there is one, doesn't pass the test
abbrev pub fails_test : (Global → Bool) → Option Global → Bool
fails_test test None = false
fails_test test (Some global) = not (test global)

-- the name is that of a global which doesn't pass the test
abbrev pub names_other : (Global → Bool) → List Global → Name → Bool
names_other test globals name = fails_test test (find (λ global. same_name name global.name) globals)

-- the action uses a name that passes the test: it stands in an offer, the gate, the guard or an update, or is a target
abbrev pub action_uses : (Name → Bool) → Action → Bool
action_uses test action =
    list_any (λ choice. uses test choice.offer) action.choices
    || (uses test action.gate
    || (uses test action.guard
    || list_any (λ update. test update.target || uses test update.expr) action.updates))

-- the global isn't a target of the action's updates
abbrev pub no_target : Action → Global → Bool
no_target action global = not (has_name (targets_of action) global.name)

-- the global exists in the layer
abbrev pub exists_at : ℕ → Global → Bool
exists_at layer global = exists_in layer (global_range global)
