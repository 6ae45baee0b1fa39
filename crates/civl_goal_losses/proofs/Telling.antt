-- A loss is told exactly where values violate a goal of an outline.
use Rattle.std.proofs.Common.{◌≡◌, ◌∙◌, ℕ, ◌+◌, ◌-◌, Bool, true, false, not, ◌&&◌, List, refl, sym}
use Rattle.std.specs.Prelude.{Option, None, Some, is_some, option_map, option_and_then, if◌then◌else◌, slice_get}
use Rattle.std.specs.Option.{option_map_or}
use Rattle.civl_bits.specs.declared.value.Value.{Value}
use Rattle.civl_tree.specs.declared.action.Action.{Action}
use Rattle.civl_tree.specs.declared.program.Program.{Program}
use Rattle.civl_tree.specs.declared.program.Thread.{Thread}
use Rattle.civl_outlines.specs.declared.outline.Outline.{Outline}
use Rattle.civl_firing.specs.declared.store.Store.{Store}
use Rattle.civl_firing.specs.Fired.{gate_holds}
use Rattle.civl_meaning.specs.declared.config.Activation.{Activation}
use Rattle.civl_meaning.specs.declared.config.Change.{Change}
use Rattle.civl_meaning.specs.declared.config.Change.TheVariants.{Stays, Goes, Acts, Enters, Leaves, Spawns}
use Rattle.civl_meaning.specs.Layers.{topmost}
use Rattle.civl_meaning.specs.Change as doing
use Rattle.civl_meaning.specs.Failing.{fails_at}
use Rattle.civl_conditions.specs.footprints.Agreement.{exists_at}
use Rattle.civl_conditions.specs.declared.condition.Condition.TheVariants.{Keep as KeepsPermissions}
use Rattle.civl_conditions.specs.Invariants.{meets_init}
use Rattle.civl_conditions.specs.Values.{invoked, count_of, store_of}
use Rattle.civl_conditions.specs.Movers.{on_some}
use Rattle.civl_clashes.specs.declared.violations.Effect.{Effect}
use Rattle.civl_clashes.specs.declared.violations.Loss.{Loss}
use Rattle.civl_clashes.specs.declared.violations.Violation.{Violation}
use Rattle.civl_clashes.specs.declared.violations.Violation.TheVariants.{Loses as LosesPermissions}
use Rattle.civl_clashes.specs.Losses.{loss_of}
use Rattle.civl_clashes.specs.Told.{keep_violation, violation}
use Rattle.civl_clashes.proofs.Violating.{violations_told}
use Rattle.civl_goals.specs.declared.goal.Goal.TheVariants as goal
use Rattle.civl_goals.specs.Outlines.{invariant_holds, note_holds}
use Rattle.civl_goals.specs.Failed.{assumed, beside, does, failed, first_frame, fired_store, led_to, loses_invariant, begins_badly, leads_astray, interferes, store_in, frame_of, chosen_of, other_of, step_fails, thread_fails, thread_frame}
use Rattle.civl_goal_losses.specs.declared.losses.GoalLoss.{GoalLoss}
use Rattle.civl_goal_losses.specs.GoalLosses.{moment, begin_loss, thread_loss, as_loss, fault, safe_loss, reached, keep_loss, spawn_loss, astray_there, next_loss, spoiled_there, other_loss, step_loss, goal_loss}
use Rattle.civl_goal_losses.specs.Laws.{GoalLossesAreTold}

-- ---- bools

one_then : {A : Type 0} (b : Bool) (a : A) → is_some (if◌then◌else◌ {A = Option A} b (Some a) None) ≡ b
one_then true a = refl
one_then false a = refl

else_one : {A : Type 0} (b : Bool) (a : A) → is_some (if◌then◌else◌ {A = Option A} b None (Some a)) ≡ not b
else_one true a = refl
else_one false a = refl

where_then : {A : Type 0} (b : Bool) (o : Option A) (s : Bool) → (b ≡ true → is_some o ≡ s) → is_some (if◌then◌else◌ {A = Option A} b o None) ≡ b && s
where_then true o s e = e refl
where_then false o s e = refl

left_true : (a b : Bool) → (a && b) ≡ true → a ≡ true
left_true true b e = refl
left_true false b e = e

some_mapped : {A B : Type 0} (f : A → B) (o : Option A) → is_some (option_map f o) ≡ is_some o
some_mapped f None = refl
some_mapped f (Some a) = refl

on_each : {A B : Type 0} (o : Option A) (f : A → Option B) (test : A → Bool) → ((a : A) → is_some (f a) ≡ test a) → is_some (option_and_then f o) ≡ on_some o test
on_each None f test e = refl
on_each (Some a) f test e = e a

-- ---- the goals of a statement

module _ (program : Program) (outline : Outline) (g : Store) (frame : Activation) where
  safe_told : (d : doing.Doing) → is_some (fault program g d) ≡ fails_at (topmost program) g d
  safe_told doing.Fails = refl
  safe_told doing.Waits = refl
  safe_told doing.Ends = refl
  safe_told (doing.Goes locals place) = refl
  safe_told (doing.Enters top place) = refl
  safe_told (doing.Leaves top) = refl
  safe_told (doing.Spawns thread place) = refl
  safe_told (doing.Calls names locals results next action args) = else_one (gate_holds program.globals g action args) _

  begin_told : (first : Activation) → is_some (begin_loss program outline g first) ≡ not (note_holds program outline g first)
  begin_told first = else_one (note_holds program outline g first) _

  spawn_told : (change : Change) → is_some (spawn_loss program outline g frame change) ≡ begins_badly program outline g frame change
  spawn_told change = on_each (first_frame program change) (begin_loss program outline g) _ begin_told

  next_told : (change : Change) → is_some (next_loss program outline g frame change) ≡ leads_astray program outline g frame change
  next_told change = led (led_to g frame change)
    where
      led : (o : Option (Store × Activation)) → is_some (option_and_then (astray_there program outline (moment g frame)) (option_map (λ q. moment q.0 q.1) o)) ≡ on_some o (λ q. not (note_holds program outline q.0 q.1))
      led None = refl
      led (Some q) = else_one (note_holds program outline q.0 q.1) _

  -- what leaves the store breaks nothing that holds in it
  stays : {A : Type 0} (b : Bool) (a : A) → b ≡ true → is_some (if◌then◌else◌ {A = Option A} b None (Some a)) ≡ false
  stays true a e = refl
  stays false a e = sym e

  keep_told : invariant_holds program outline g ≡ true → (change : Change) → is_some (keep_loss program outline g frame change) ≡ loses_invariant program outline g frame change
  keep_told holds (Stays a) = refl
  keep_told holds (Goes locals place) = stays (invariant_holds program outline g) _ holds
  keep_told holds (Acts store locals place) = else_one (invariant_holds program outline store) _
  keep_told holds (Enters top place) = refl
  keep_told holds (Leaves top) = refl
  keep_told holds (Spawns thread place) = stays (invariant_holds program outline g) _ holds

  module _ (other : Activation) where
    spoiled_told : note_holds program outline g other ≡ true → (change : Change) → is_some (option_and_then (spoiled_there program outline other (moment g frame)) (reached g frame change)) ≡ on_some (fired_store change) (λ after. not (note_holds program outline after other))
    spoiled_told holds (Stays a) = refl
    spoiled_told holds (Goes locals place) = stays (note_holds program outline g other) _ holds
    spoiled_told holds (Acts store locals place) = else_one (note_holds program outline store other) _
    spoiled_told holds (Enters top place) = refl
    spoiled_told holds (Leaves top) = refl
    spoiled_told holds (Spawns thread place) = stays (note_holds program outline g other) _ holds

    other_told : (change : Change) → is_some (other_loss program outline other g frame change) ≡ interferes program outline other g frame change
    other_told change =
        where_then (beside program outline g frame other) _ _ (λ b. spoiled_told (left_true (note_holds program outline g other) _ b) change)

module _ (program : Program) (outline : Outline) (values : List Value) (r s : ℕ) where
  step_told : (loss : Store → Activation → Change → Option GoalLoss) (fails : Store → Activation → Change → Bool)
      → (invariant_holds program outline (store_in program values) ≡ true → is_some (loss (store_in program values) (frame_of program values r s) (does program (store_in program values) (frame_of program values r s) (chosen_of program values r s)))
      ≡ fails (store_in program values) (frame_of program values r s) (does program (store_in program values) (frame_of program values r s) (chosen_of program values r s)))
      → is_some (step_loss program outline values r s loss) ≡ step_fails program outline values r s fails
  step_told loss fails e =
      where_then (assumed program outline (store_in program values) (frame_of program values r s)) _ _ (λ b. e (left_true (invariant_holds program outline (store_in program values)) _ b))

-- ---- permissions

as_told : {A : Type 0} (f : A → Violation) (o : Option A) → ((a : A) → is_some (as_loss (f a)) ≡ true) → is_some (option_and_then as_loss (option_map f o)) ≡ is_some (option_map f o)
as_told f None e = refl
as_told f (Some a) e = e a

linear_told : (program : Program) (step x : ℕ) (values : List Value) → is_some (option_and_then as_loss (violation program (KeepsPermissions step x) values)) ≡ is_some (violation program (KeepsPermissions step x) values)
unfolding violation
linear_told program step x values = by_action (slice_get program.actions x)
  where
    by_action : (o : Option Action) → is_some (option_and_then as_loss (option_map_or (λ a. keep_violation program (store_of (exists_at (step - 1)) program values) x (invoked values (count_of (exists_at (step - 1)) program) a)) o None))
        ≡ is_some (option_map_or (λ a. keep_violation program (store_of (exists_at (step - 1)) program values) x (invoked values (count_of (exists_at (step - 1)) program) a)) o None)
    by_action None = refl
    by_action (Some a) = as_told (λ (l : Effect × Loss). LosesPermissions _ _ l.0 l.1) (loss_of program _ _) (λ l. refl)

-- ---- all

thread_told : (program : Program) (outline : Outline) (g : Store) (thread : Thread) → is_some (thread_loss program outline g thread) ≡ thread_fails program outline g thread
thread_told program outline g thread = on_each (thread_frame program g thread) (begin_loss program outline g) _ (λ first. else_one (note_holds program outline g first) _)

pub goal_losses_told : GoalLossesAreTold
unfolding goal_loss failed
goal_losses_told program outline goal.Invariant values = one_then _ _
goal_losses_told program outline (goal.Thread i) values =
    where_then (meets_init program (record { values = values })) _ _ (λ b. on_each (slice_get program.threads i) (thread_loss program outline (record { values = values })) _ (thread_told program outline (record { values = values })))
goal_losses_told program outline (goal.Linear x) values =
    linear_told program (program.layers + 1) x values ∙ violations_told program (KeepsPermissions (program.layers + 1) x) values refl
goal_losses_told program outline (goal.Safe r s) values =
    step_told program outline values r s (safe_loss program)
    (λ g frame change. fails_at (topmost program) g (doing.proc_doing (topmost program) None frame (slice_get program.procs r)))
    (λ h. some_mapped _ (fault program (store_in program values) _) ∙ safe_told program outline (store_in program values) (frame_of program values r s) _)
goal_losses_told program outline (goal.Keep r s) values =
    step_told program outline values r s (keep_loss program outline) (loses_invariant program outline) (λ h. keep_told program outline (store_in program values) (frame_of program values r s) h _)
goal_losses_told program outline (goal.Spawn r s) values =
    step_told program outline values r s (spawn_loss program outline) (begins_badly program outline) (λ h. spawn_told program outline (store_in program values) (frame_of program values r s) _)
goal_losses_told program outline (goal.Next r s) values =
    step_told program outline values r s (next_loss program outline) (leads_astray program outline) (λ h. next_told program outline (store_in program values) (frame_of program values r s) _)
goal_losses_told program outline (goal.Other r s q t) values =
    step_told program outline values r s (other_loss program outline (other_of program values r s q t))
    (interferes program outline (other_of program values r s q t))
    (λ h. other_told program outline (store_in program values) (frame_of program values r s) (other_of program values r s q t) _)
