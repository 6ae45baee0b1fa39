-- The condition that actions keep targets says of all states what it says of the values of its variables.
use Rattle.std.proofs.Common.{◌≡◌, ◌≤◌, ◌<◌, ℕ, ◌+◌, ◌-◌, Bool, false, List, [], ◌++◌, length, drop, Option, Some, None, refl, sym, ap, ◌∙◌, subst, arith}
use Rattle.std.specs.Prelude.{IsTrue, nat_le, nat_lt, codes}
use Rattle.std.specs.List.{Contains}
use Rattle.std.specs.Option.{option_map_or}
use Rattle.std.proofs.lemmas.Bool.{and_parts, leb-true, ltb-true}
use Rattle.std.proofs.lemmas.List.{length-append, append_assoc, drop_at}
use Rattle.civl_bits.specs.declared.value.Value.{Value}
use Rattle.civl_tree.specs.declared.action.Action.{Action}
use Rattle.civl_tree.specs.declared.program.Program.{Program}
use Rattle.civl_firing.specs.declared.store.Store.{Store}
use Rattle.civl_firing.specs.Stores.{IsStore}
use Rattle.civl_meaning.specs.Permissions.{pairwise_disjoint}
use Rattle.civl_layers.specs.Layered.{IsLayered}
use Rattle.civl_conditions.specs.footprints.Laws.{ActsAlike, FireAlike}
use Rattle.civl_conditions.proofs.footprints.Acting.{acts_alike}
use Rattle.civl_conditions.specs.paths.Seen.{exists_near}
use Rattle.civl_conditions.specs.declared.condition.Condition.TheVariants.{Act}
use Rattle.civl_conditions.specs.declared.condition.Target.{Target}
use Rattle.civl_conditions.specs.Steps.{of_action, lasts_through}
use Rattle.civl_conditions.specs.Listed.{targets}
use Rattle.civl_conditions.specs.Variables.{variables, near_globals, of_instance, other_variables}
use Rattle.civl_conditions.specs.Values.{Invoked, store_of, count_of, invoked, instance_count}
use Rattle.civl_conditions.specs.Permissions.{in_store, of_inputs}
use Rattle.civl_conditions.specs.Invariants.{invariants_hold}
use Rattle.civl_conditions.specs.Movers.{on_some, gate_of, fires_of}
use Rattle.civl_conditions.specs.Targets.{target_owned, act_fails}
use Rattle.civl_conditions.specs.Violated.{violated, Holds}
use Rattle.civl_condition_laws.specs.States.{IsInvoked, AreOthersOf}
use Rattle.civl_condition_laws.proofs.Gathering.{Fit, fit_more, kept, kept_fit, kept_length, spread_agrees, instance_of, instance_fit, instance_length, invoked_is}
use Rattle.civl_condition_laws.proofs.Carrying.{same_and, same_linear}
use Rattle.civl_condition_laws.proofs.Meeting.{in_range, range_kept}
use Rattle.civl_condition_laws.proofs.Nearby.{below_near, Near, action_near, linear_near, invariants_same}
use Rattle.civl_condition_laws.proofs.Losing.{IsTarget, target_is, lost_alike, owned_there, lost_there}

-- the same is found in both, where there is something
pub some_alike : (program : Program) (layered : IsLayered program) (step : ℕ) (a b : Option (Store × List Value)) (f h : Store × List Value → Bool) → FireAlike (exists_near step) program.globals a b →
    ((p q : Store × List Value) → Near program layered step p.0 q.0 → p.1 ≡ q.1 → f p ≡ h q) → on_some a f ≡ on_some b h
some_alike program layered step None None f h alike each = refl
some_alike program layered step (Some p) (Some q) f h alike each = each p q alike.0 alike.1
some_alike program layered step None (Some q) f h alike each = absurd alike
some_alike program layered step (Some p) None f h alike each = absurd alike

pub some_same : (o : Option (Store × List Value)) (f h : Store × List Value → Bool) → ((p : Store × List Value) → f p ≡ h p) → on_some o f ≡ on_some o h
some_same None f h each = refl
some_same (Some p) f h each = each p

module _ (program : Program) (layered : IsLayered program) (step number : ℕ) (x : Invoked) (is : IsInvoked program number x) (through : IsTrue (lasts_through step x.action)) where
  lasts : (x.action.first < step) × (step ≤ x.action.last)
  lasts = let p = and_parts (nat_lt x.action.first step) (nat_le step x.action.last) through in (ltb-true x.action.first step p.0, leb-true step x.action.last p.1)

  within : step ≤ program.layers
  within = let a = lasts.1 in let b = (range_kept program layered number x.action is.action).1 in omega arith

  acts_near : (s t : Store) → Near program layered step s t → ActsAlike (exists_near step) program.globals s t x.action x.inputs
  acts_near s t near =
      let a = lasts.0 in
      let b = lasts.1 in
      acts_alike (exists_near step) program.globals s t x.action x.inputs near
      (action_near program layered step (step - 1) number x.action (below_near step) is.action (in_range (step - 1) x.action (omega arith) (omega arith)))

  act_same : (t : Target) → IsTarget program step t → (values : List Value) (at : ℕ) (g h : Store) → Near program layered step g h → act_fails program step g x t values at ≡ act_fails program step h x t values at
  act_same t target values at g h near =
      let alike = acts_near g h near in
      same_and _ _ _ _ (invariants_same program layered step g h near)
      (same_and _ _ _ _ alike.gate
      (same_and _ _ _ _
      (ap (λ (ps : List (List ℕ)). pairwise_disjoint (ps ++ (of_inputs x ++ target_owned program t values at))) (same_linear (exists_near step) program.globals g.values h.values (linear_near program layered step within) near))
      (some_alike program layered step (fires_of program g x) (fires_of program h x) _ _ (alike.fired x.chosen) (λ p q far e. lost_alike program layered step t target values at g p.0 h q.0 near far))))

  -- ---- the values

  there_same : (g : Store) (t : Target) (values others : List Value) (at : ℕ) → drop at values ≡ others → act_fails program step g x t values at ≡ act_fails program step g x t others 0
  there_same g t values others at behind =
      same_and (invariants_hold program step g) _ _ _ refl
      (same_and (gate_of program g x) _ _ _ refl
      (same_and _ _ _ _
      (ap (λ (ps : List (List ℕ)). pairwise_disjoint (in_store program g ++ (of_inputs x ++ ps))) (owned_there program step values others at behind t))
      (some_same (fires_of program g x) _ _ (λ p. lost_there program step values others at behind t g p.0))))

  module _ (g : Store) (fit : IsStore program.globals g) (t : Target) (others : List Value) (of : AreOthersOf program t others) where
    abbrev near_values : List Value
    near_values = kept (exists_near step) program.globals g.values

    near_length : length near_values ≡ count_of (exists_near step) program
    near_length = kept_length (exists_near step) program.globals g.values fit

    abbrev values : List Value
    values = near_values ++ (instance_of x ++ others)

    abbrev given : Store
    given = store_of (exists_near step) program values

    abbrev place : ℕ
    place = count_of (exists_near step) program + instance_count x.action

    given_near : Near program layered step g given
    given_near = spread_agrees (exists_near step) program.globals g.values (instance_of x ++ others) fit

    values_fit : Fit values (variables program (Act step number t))
    unfolding variables
    values_fit =
        fit_more near_values (instance_of x ++ others) (near_globals [] program step) _ (kept_fit (exists_near step) [] program.globals g.values fit)
        (fit_more (instance_of x) others (of_action program number [] (of_instance (codes "X."))) (other_variables program t)
        (subst (λ (o : Option Action). Fit (instance_of x) (option_map_or (of_instance (codes "X.")) o [])) (sym is.action) (instance_fit program number x is (codes "X."))) of)

    long : length (near_values ++ instance_of x) ≡ place
    long =
        length-append near_values (instance_of x)
        ∙ (ap (λ (n : ℕ). n + length (instance_of x)) near_length ∙ ap (λ (n : ℕ). count_of (exists_near step) program + n) (instance_length program number x is))

    behind : drop place values ≡ others
    behind = ap (drop place) (sym (append_assoc near_values (instance_of x) others)) ∙ drop_at (near_values ++ instance_of x) others place long

    act_says : Holds program (Act step number t) → act_fails program step given x t others 0 ≡ false
    unfolding violated
    act_says holds =
        sym (ap (λ (o : Option Action). option_map_or (λ a. act_fails program step given (invoked values (count_of (exists_near step) program) a) t values (count_of (exists_near step) program + instance_count a)) o false) is.action
        ∙ (ap (λ (y : Invoked). act_fails program step given y t values place) (invoked_is program number x is near_values others (count_of (exists_near step) program) near_length)
        ∙ there_same given t values others place behind))
        ∙ holds values values_fit

    pub act_of_states : Contains (targets program step) t → Holds program (Act step number t) → act_fails program step g x t others 0 ≡ false
    act_of_states among holds = act_same t (target_is program step t among) others 0 g given given_near ∙ act_says holds
