-- What an expression or an action doesn't use, it neither sees nor changes.
use Rattle.std.specs.Prelude.{ℕ, ◌≡◌, Bool, false, List, Option, None, Some, IsTrue, slice_get}
use Rattle.civl_bits.specs.declared.value.Value.{Value}
use Rattle.civl_tree.specs.declared.name.Name.{Name}
use Rattle.civl_tree.specs.declared.expr.Expr.{Expr}
use Rattle.civl_tree.specs.declared.action.Action.{Action}
use Rattle.civl_tree.specs.declared.program.Global.{Global}
use Rattle.civl_tree.specs.declared.program.Program.{Program}
use Rattle.civl_firing.specs.declared.store.Store.{Store}
use Rattle.civl_firing.specs.declared.scope.Scope.{Scope}
use Rattle.civl_firing.specs.Stores.{IsStore}
use Rattle.civl_firing.specs.Eval.{value_of}
use Rattle.civl_firing.specs.Fired.{gate_holds, guard_holds, offers, fires}
use Rattle.civl_layers.specs.Ranges.{exists_in}
use Rattle.civl_layers.specs.Names.{action_range, uses}
use Rattle.civl_layers.specs.Layered.{IsLayered}
use Rattle.civl_conditions.specs.footprints.Agreement.{AgreeBut, StoresAgree, names_other, action_uses, no_target, exists_at}

-- an expression that uses none of these names has one value in two scopes that agree on all others
abbrev pub ValuesAgree : Type 0
ValuesAgree = (others : Name → Bool) (s t : Scope) (e : Expr) → AgreeBut others s t → uses others e ≡ false → value_of s e ≡ value_of t e

-- two transitions are both blocked, or come to stores that agree and to the same outputs
abbrev pub FireAlike : (Global → Bool) → List Global → Option (Store × List Value) → Option (Store × List Value) → Type 0
FireAlike test globals None None = Unit {0}
FireAlike test globals None (Some b) = ⊥
FireAlike test globals (Some a) None = ⊥
FireAlike test globals (Some a) (Some b) = StoresAgree test globals a.0 b.0 × (a.1 ≡ b.1)

-- with these inputs the action does the same in both stores
pub record ActsAlike (test : Global → Bool) (globals : List Global) (s t : Store) (action : Action) (inputs : List Value) : Type 0 where
  pub gate : gate_holds globals s action inputs ≡ gate_holds globals t action inputs
  pub offered : offers globals s action inputs ≡ offers globals t action inputs
  pub guard : (chosen : List Value) → guard_holds globals s action inputs chosen ≡ guard_holds globals t action inputs chosen
  pub fired : (chosen : List Value) → FireAlike test globals (fires globals s action inputs chosen) (fires globals t action inputs chosen)

-- an action that uses no global but those that pass the test does the same in two stores that agree on these
abbrev pub ActionsActAlike : Type 0
ActionsActAlike =
    (test : Global → Bool) (globals : List Global) (s t : Store) (action : Action) (inputs : List Value) →
    StoresAgree test globals s t → action_uses (names_other test globals) action ≡ false → ActsAlike test globals s t action inputs

-- an action leaves the globals that aren't targets of its updates
abbrev pub ActionsKeepOthers : Type 0
ActionsKeepOthers =
    (globals : List Global) (store : Store) (action : Action) (inputs chosen : List Value) (after : Store × List Value) →
    IsStore globals store → fires globals store action inputs chosen ≡ Some after → StoresAgree (no_target action) globals store after.0

-- an action that exists in a layer uses no global that doesn't
abbrev pub ActionsUseWhatExists : Type 0
ActionsUseWhatExists =
    (program : Program) (place layer : ℕ) (action : Action) →
    IsLayered program → slice_get program.actions place ≡ Some action → IsTrue (exists_in layer (action_range action)) →
    action_uses (names_other (exists_at layer) program.globals) action ≡ false
