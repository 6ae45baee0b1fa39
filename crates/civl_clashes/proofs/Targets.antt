-- A lost target is told exactly where values violate K11; and the frame at a target, whose values stand behind others.
use Rattle.std.proofs.Common.{◌≡◌, ◌∙◌, ℕ, ◌+◌, Bool, true, false, not, ◌&&◌, List, [], ◌++◌, refl, ap, drop, get_or, arith}
use Rattle.std.specs.Prelude.{Option, None, Some, is_some, option_map, option_and_then, if◌then◌else◌}
use Rattle.std.proofs.lemmas.List.{get_or-drop}
use Rattle.civl_bits.specs.declared.value.Value.{Value}
use Rattle.civl_tree.specs.declared.program.Proc.{Proc}
use Rattle.civl_tree.specs.declared.program.Program.{Program}
use Rattle.civl_firing.specs.declared.store.Store.{Store}
use Rattle.civl_firing.specs.values.Operators.{nothing}
use Rattle.civl_firing.specs.values.Values.{is_true}
use Rattle.civl_conditions.specs.declared.condition.Target.{Target}
use Rattle.civl_conditions.specs.declared.condition.Target.TheVariants as target
use Rattle.civl_conditions.specs.Steps.{of_proc, of_cut}
use Rattle.civl_conditions.specs.Values.{Invoked, part}
use Rattle.civl_meaning.specs.Permissions.{pairwise_disjoint}
use Rattle.civl_conditions.specs.Permissions.{in_store, of_inputs, held_at, of_held}
use Rattle.civl_conditions.specs.Invariants.{invariants_hold}
use Rattle.civl_conditions.specs.Movers.{on_some, gate_of, fires_of}
use Rattle.civl_conditions.specs.Targets.{frame_size, other_of, yield_holds, target_owned, target_lost}
use Rattle.civl_clashes.specs.declared.violations.Effect.{Effect}
use Rattle.civl_clashes.specs.declared.violations.Violation.TheVariants.{Strays}
use Rattle.civl_clashes.specs.Effects.{effect, effect_of, instance}
use Rattle.civl_clashes.specs.Strays.{apart_beside, lost_in}
use Rattle.civl_clashes.specs.Told.{act_violation}
use Rattle.civl_clashes.specs.Laws.{StraysAreTold}

-- ---- a frame whose values stand behind others

module _ (values : List Value) (at : ℕ) where
  flag_behind : (n : ℕ) → get_or (drop at values) (0 + n) nothing ≡ get_or values (at + n) nothing
  flag_behind n = get_or-drop at values (0 + n) nothing ∙ ap (λ (k : ℕ). get_or values k nothing) (omega arith)

  other_behind : (proc : Proc) → other_of proc (drop at values) 0 ≡ other_of proc values at
  other_behind proc = λ i. record { locals = part values at (frame_size proc); done = is_true (flag_behind (frame_size proc) i) }

  pub owned_behind : (program : Program) (aim : Target) → target_owned program aim (drop at values) 0 ≡ target_owned program aim values at
  owned_behind program (target.Invariant i) = refl
  owned_behind program (target.Yield r y) = λ i. of_proc program r [] (λ proc. of_held (held_at program proc y) (other_behind proc i).locals)

  pub lost_behind : (program : Program) (step : ℕ) (aim : Target) (before after : Store) → target_lost program step aim (drop at values) 0 before after ≡ target_lost program step aim values at before after
  lost_behind program step (target.Invariant n) before after = refl
  lost_behind program step (target.Yield r y) before after = λ i. of_cut program r y false (λ proc cut.
      yield_holds program proc cut (other_behind proc i) before && not (yield_holds program proc cut (other_behind proc i) after))

  pub strays_behind : (program : Program) (step : ℕ) (g : Store) (m : ℕ) (x : Invoked) (aim : Target) → act_violation program step g m x aim (drop at values) 0 ≡ act_violation program step g m x aim values at
  strays_behind program step g m x aim = λ i.
      option_map (Strays g (instance m x)) (
      if◌then◌else◌ {A = Option Effect}
      (invariants_hold program step g && (gate_of program g x && pairwise_disjoint (in_store program g ++ (of_inputs x ++ owned_behind program aim i))))
      (option_and_then (λ (a : Effect). if◌then◌else◌ {A = Option Effect} (lost_behind program step aim g a.store i) (Some a) None) (effect_of program g x))
      None
      )

-- K11, of the same store, number, action and frame
pub act_as : (program : Program) (step : ℕ) (g h : Store) (m n : ℕ) (x y : Invoked) (aim : Target) (rest values : List Value) (at : ℕ) → g ≡ h → m ≡ n → x ≡ y → rest ≡ drop at values
    → act_violation program step g m x aim rest 0 ≡ act_violation program step h n y aim values at
act_as program step g h m n x y aim rest values at store number call frame =
    ap (λ (s : Store). act_violation program step s m x aim rest 0) store
    ∙ (ap (λ (k : ℕ). act_violation program step h k x aim rest 0) number
    ∙ (ap (λ (z : Invoked). act_violation program step h n z aim rest 0) call
    ∙ (ap (λ (vs : List Value). act_violation program step h n y aim vs 0) frame
    ∙ strays_behind values at program step h n y aim)))

-- ---- K11

module _ (program : Program) (step : ℕ) (g : Store) (aim : Target) (values : List Value) (at : ℕ) where
  one_lost : (lost : Bool) (a : Effect) → is_some (if◌then◌else◌ {A = Option Effect} lost (Some a) None) ≡ lost
  one_lost true a = refl
  one_lost false a = refl

  lost_told : (o : Option (Store × List Value)) → is_some (option_and_then (lost_in program step g aim values at) (option_map effect o)) ≡ on_some o (λ a. target_lost program step aim values at g a.0)
  lost_told None = refl
  lost_told (Some a) = one_lost (target_lost program step aim values at g a.0) (effect a)

all_then : {A : Type 0} (r s t : Bool) (o : Option A) (b : Bool) → is_some o ≡ b → is_some (if◌then◌else◌ {A = Option A} (r && (s && t)) o None) ≡ r && (s && (t && b))
all_then true true true o b e = e
all_then true true false o b e = refl
all_then true false t o b e = refl
all_then false s t o b e = refl

pub strays_told : StraysAreTold
strays_told program step g x aim values at =
    all_then (invariants_hold program step g) (gate_of program g x) (apart_beside program g x aim values at) _ _ (lost_told program step g aim values at (fires_of program g x))
