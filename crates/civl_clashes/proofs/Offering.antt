-- An action that waits, and results that are told in other words.
use Rattle.std.proofs.Common.{◌≡◌, ℕ, true, false, List, refl, ap, sym, ◌∙◌, subst}
use Rattle.std.specs.Prelude.{Some, Result, IfOk}
use Rattle.civl_bits.specs.declared.value.Value.{Value}
use Rattle.civl_tree.specs.declared.program.Program.{Program}
use Rattle.civl_firing.specs.declared.store.Store.{Store}
use Rattle.civl_firing.specs.Fired.{guard_holds, offers}
use Rattle.civl_conditions.specs.Values.{Invoked}
use Rattle.civl_conditions.specs.Movers.{gate_of}
use Rattle.civl_clashes.specs.declared.violations.Violation.TheVariants.{Waits}
use Rattle.civl_clashes.specs.Effects.{instance}
use Rattle.civl_clashes.specs.Gates.{offered}
use Rattle.civl_clashes.specs.Told.{fire_violation, keep_violation}

-- a result that is this is that
pub told_as : {A E : Type 0} (r : Result A E) (v w : A) → v ≡ w → IfOk r (λ told. told ≡ v) → IfOk r (λ told. told ≡ w)
told_as r v w same told = subst (λ u. IfOk r (λ t. t ≡ u)) same told

-- K8, of the same store, number and action
pub fire_as : (program : Program) (g h : Store) (m n : ℕ) (x y : Invoked) → g ≡ h → m ≡ n → x ≡ y → fire_violation program g m x ≡ fire_violation program h n y
fire_as program g h m n x y store number call =
    ap (λ (s : Store). fire_violation program s m x) store ∙ (ap (λ (k : ℕ). fire_violation program h k x) number ∙ ap (λ (z : Invoked). fire_violation program h n z) call)

module _ (program : Program) (g : Store) (m : ℕ) (x : Invoked) (gate : gate_of program g x ≡ true) where
  offered_waits : guard_holds program.globals g x.action x.inputs (offers program.globals g x.action x.inputs) ≡ false
      → fire_violation program g m x ≡ Some (Waits g (instance m (offered program g x)))
  offered_waits guard = rw (gate, guard) refl

  pub waits_told : (chosen : List Value) → chosen ≡ offers program.globals g x.action x.inputs → guard_holds program.globals g x.action x.inputs chosen ≡ false
      → fire_violation program g m x ≡ Some (Waits g (record { action = m; inputs = x.inputs; chosen = chosen }))
  waits_told chosen is guard =
      offered_waits (ap (guard_holds program.globals g x.action x.inputs) (sym is) ∙ guard)
      ∙ ap (λ (cs : List Value). Some (Waits g (record { action = m; inputs = x.inputs; chosen = cs }))) (sym is)

-- K2, of the same store, number and action
pub keep_as : (program : Program) (g h : Store) (m n : ℕ) (x y : Invoked) → g ≡ h → m ≡ n → x ≡ y → keep_violation program g m x ≡ keep_violation program h n y
keep_as program g h m n x y store number call =
    ap (λ (s : Store). keep_violation program s m x) store ∙ (ap (λ (k : ℕ). keep_violation program h k x) number ∙ ap (λ (z : Invoked). keep_violation program h n z) call)
