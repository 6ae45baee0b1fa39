-- A violation is told exactly where values violate a condition on actions.
use Rattle.std.proofs.Common.{◌≡◌, ◌∙◌, ℕ, ◌+◌, ◌-◌, Bool, true, false, ◌&&◌, List, nat_eq, refl}
use Rattle.std.specs.Prelude.{Option, None, Some, is_some, if◌then◌else◌, slice_get}
use Rattle.std.specs.Option.{option_map_or}
use Rattle.std.proofs.lemmas.Bool.{false≢true}
use Rattle.civl_bits.specs.declared.value.Value.{Value}
use Rattle.civl_tree.specs.declared.action.Action.{Action}
use Rattle.civl_tree.specs.declared.program.Program.{Program}
use Rattle.civl_firing.specs.declared.store.Store.{Store}
use Rattle.civl_conditions.specs.footprints.Agreement.{exists_at}
use Rattle.civl_conditions.specs.declared.condition.Condition.TheVariants as condition
use Rattle.civl_conditions.specs.declared.condition.Target.{Target}
use Rattle.civl_conditions.specs.paths.Seen.{exists_near}
use Rattle.civl_conditions.specs.Values.{Invoked, invoked, instance_count, count_of, store_of}
use Rattle.civl_conditions.specs.Movers.{loses, apart, waits, pair_fails}
use Rattle.civl_conditions.specs.Invariants.{start_fails}
use Rattle.civl_conditions.specs.Targets.{act_fails}
use Rattle.civl_conditions.specs.Violated.{violated}
use Rattle.civl_clashes.specs.declared.violations.Violation.TheVariants.{Starts}
use Rattle.civl_clashes.specs.Losses.{loss_of}
use Rattle.civl_clashes.specs.Clashes.{clash_of}
use Rattle.civl_clashes.specs.Gates.{spoil_of, reveal_of, wait_of}
use Rattle.civl_clashes.specs.Strays.{stray_of}
use Rattle.civl_clashes.specs.Told.{keep_violation, pair_violation, apart_violation, fire_violation, act_violation, violation}
use Rattle.civl_clashes.specs.Laws.{StartsAreTold, ViolationsAreTold}
use Rattle.civl_clashes.proofs.Losses.{losses_told}
use Rattle.civl_clashes.proofs.Clashing.{some_mapped, clashes_told, spoils_told, reveals_told, waits_told}
use Rattle.civl_clashes.proofs.Targets.{strays_told}

if_told : {A : Type 0} (b : Bool) (o p : Option A) (s t : Bool) → is_some o ≡ s → is_some p ≡ t
    → is_some (if◌then◌else◌ {A = Option A} b o p) ≡ (if b then s else t)
if_told true o p s t e f = e
if_told false o p s t e f = f

pub then_told : {A : Type 0} (b : Bool) (o : Option A) (s : Bool) → is_some o ≡ s → is_some (if◌then◌else◌ {A = Option A} b o None) ≡ b && s
then_told true o s e = e
then_told false o s e = refl

pub of_told : {A B : Type 0} (o : Option A) (f : A → Option B) (h : A → Bool) → ((a : A) → is_some (f a) ≡ h a) → is_some (option_map_or f o None) ≡ option_map_or h o false
of_told None f h e = refl
of_told (Some a) f h e = e a

module _ (program : Program) (number step : ℕ) (g : Store) (m : ℕ) (x : Invoked) (n : ℕ) (y : Invoked) where
  pub pair_told : is_some (apart_violation program number step g m x n y) ≡ pair_fails program number step g x y
  pair_told =
      then_told (apart program g x y) (pair_violation program number step g m x n y) _ (
      if_told (nat_eq number 3) _ _ _ _ (some_mapped _ (clash_of program step g x y) ∙ clashes_told program step g x y) (
      if_told (nat_eq number 4) _ _ _ _ (some_mapped _ (spoil_of program g x y) ∙ spoils_told program g x y) (
      if_told (nat_eq number 5) _ _ _ _ (some_mapped _ (clash_of program step g y x) ∙ clashes_told program step g y x) (
      if_told (nat_eq number 6) _ _ _ _ (some_mapped _ (spoil_of program g y x) ∙ spoils_told program g y x) (
      then_told (nat_eq number 7) _ _ (some_mapped _ (reveal_of program g x y) ∙ reveals_told program g x y)
      )))))

pub fire_told : (program : Program) (g : Store) (m : ℕ) (x : Invoked) → is_some (fire_violation program g m x) ≡ waits program g x
fire_told program g m x = some_mapped _ (wait_of program g x) ∙ waits_told program g x

pub keep_told : (program : Program) (g : Store) (m : ℕ) (x : Invoked) → is_some (keep_violation program g m x) ≡ loses program g x
keep_told program g m x = some_mapped _ (loss_of program g x) ∙ losses_told program g x

pub act_told : (program : Program) (step : ℕ) (g : Store) (m : ℕ) (x : Invoked) (target : Target) (values : List Value) (at : ℕ) →
    is_some (act_violation program step g m x target values at) ≡ act_fails program step g x target values at
act_told program step g m x target values at = some_mapped _ (stray_of program step g x target values at) ∙ strays_told program step g x target values at

one_told : {A : Type 0} (b : Bool) (a : A) → is_some (if◌then◌else◌ {A = Option A} b (Some a) None) ≡ b
one_told true a = refl
one_told false a = refl

pub starts_told : StartsAreTold
starts_told program step i g = one_told (start_fails program step i g) (Starts g)

module _ (program : Program) (step : ℕ) (values : List Value) where
  abbrev store : Store
  store = store_of (exists_at (step - 1)) program values

  abbrev first : Action → Invoked
  first a = invoked values (count_of (exists_at (step - 1)) program) a

  abbrev second : Action → Action → Invoked
  second a b = invoked values (count_of (exists_at (step - 1)) program + instance_count a) b

pub violations_told : ViolationsAreTold
unfolding violation violated
violations_told program (condition.Start step i) values e = starts_told program step i (record { values = values })
violations_told program (condition.Keep step m) values e =
    of_told (slice_get program.actions m) _ _ (λ a. keep_told program (store program step values) m (first program step values a))
violations_told program (condition.Pair number step m n) values e =
    of_told (slice_get program.actions m) _ _ (λ a. of_told (slice_get program.actions n) _ _ (λ b.
    pair_told program number step (store program step values) m (first program step values a) n (second program step values a b)))
violations_told program (condition.Fire step m) values e =
    of_told (slice_get program.actions m) _ _ (λ a. fire_told program (store program step values) m (first program step values a))
violations_told program (condition.Path part step q c) values e = absurd (false≢true e)
violations_told program (condition.Block step q c target) values e = absurd (false≢true e)
violations_told program (condition.Act step m target) values e =
    of_told (slice_get program.actions m) _ _ (λ a. act_told program step (store_of (exists_near step) program values) m
    (invoked values (count_of (exists_near step) program) a) target values (count_of (exists_near step) program + instance_count a))
