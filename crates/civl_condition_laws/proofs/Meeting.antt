-- The conditions on actions that hold say of all states what they say of the values of their variables.
use Rattle.std.proofs.Common.{◌≡◌, ◌≤◌, ℕ, ◌+◌, ◌-◌, Bool, true, false, not, ◌&&◌, List, [], ◌++◌, Option, Some, length, refl, sym, ap, ◌∙◌, subst, arith}
use Rattle.std.specs.Prelude.{IsTrue, slice_get, nat_le, nat_lt, nat_eq, codes, if◌then◌else◌}
use Rattle.std.specs.List.{Contains}
use Rattle.std.specs.Option.{option_map_or}
use Rattle.std.proofs.lemmas.Bool.{or_parts, and_parts, and_from, not-false, le-leb, leb-true, ltb-true, ltb-false, eqb-true}
use Rattle.std.proofs.lemmas.List.{length-append, append_assoc}
use Rattle.civl_bits.specs.declared.value.Value.{Value}
use Rattle.civl_tree.specs.declared.action.Action.{Action}
use Rattle.civl_tree.specs.declared.program.Program.{Program}
use Rattle.civl_tree.proofs.Kept.{action_kept, global_kept}
use Rattle.civl_tree.proofs.Bools.{not_second}
use Rattle.civl_firing.specs.declared.store.Store.{Store}
use Rattle.civl_firing.specs.Stores.{IsStore}
use Rattle.civl_layers.specs.Ranges.{exists_in, exists_through}
use Rattle.civl_layers.specs.Names.{global_range, action_range}
use Rattle.civl_layers.specs.LayerRules.{layer_rules, range_rule, introduced_rule}
use Rattle.civl_layers.specs.Layered.{IsLayered}
use Rattle.civl_conditions.specs.footprints.Agreement.{StoresAgree, exists_at}
use Rattle.civl_conditions.specs.footprints.Laws.{ActsAlike}
use Rattle.civl_conditions.proofs.footprints.Acting.{acts_alike}
use Rattle.civl_conditions.proofs.footprints.Existing.{through_in, uses_what_exists}
use Rattle.civl_conditions.specs.declared.condition.Condition.TheVariants.{Start, Keep, Pair, Fire}
use Rattle.civl_conditions.specs.declared.condition.Variable.{Variable}
use Rattle.civl_conditions.specs.Steps.{of_action, begins_below, meet_below}
use Rattle.civl_conditions.specs.Variables.{variables, of_params, of_instance, lower_globals}
use Rattle.civl_conditions.specs.Values.{Invoked, store_of, count_of, invoked, instance_count}
use Rattle.civl_conditions.specs.Invariants.{start_fails}
use Rattle.civl_conditions.specs.Movers.{loses, waits, pair_fails}
use Rattle.civl_conditions.specs.Violated.{violated, Holds}
use Rattle.civl_condition_laws.specs.States.{IsInvoked, ActionsOfStates}
use Rattle.civl_condition_laws.proofs.Gathering.{Fit, fit_more, fit_named, kept, kept_fit, kept_length, spread_agrees, instance_of, inputs_fit, instance_fit, instance_length, invoked_is, last_is, last_inputs}
use Rattle.civl_condition_laws.proofs.Carrying.{LinearPass, same_loses, same_pair, same_waits}

-- ---- layers

pub in_range : (layer : ℕ) (a : Action) → a.first ≤ layer → layer ≤ a.last → exists_in layer (action_range a) ≡ true
in_range layer a from to = and_from (nat_le a.first layer) (nat_le layer a.last) (le-leb a.first layer from) (le-leb layer a.last to)

-- the layer below is the later of both first layers
meets_at : (later : Bool) (step : ℕ) (a b : Action) → nat_lt a.first b.first ≡ later → (if later then b.first else a.first) + 1 ≡ step → step ≤ a.last + 1 → step ≤ b.last + 1 →
    (exists_in (step - 1) (action_range a) ≡ true) × (exists_in (step - 1) (action_range b) ≡ true)
meets_at true step a b e f to near =
    let w : a.first ≤ b.first = omega (arith, ltb-true a.first b.first e) in
    (in_range (step - 1) a (omega arith) (omega arith), in_range (step - 1) b (omega arith) (omega arith))
meets_at false step a b e f to near =
    let w : b.first ≤ a.first = ltb-false a.first b.first e in
    (in_range (step - 1) a (omega arith) (omega arith), in_range (step - 1) b (omega arith) (omega arith))

pub meets : (step : ℕ) (a b : Action) → IsTrue (meet_below step a b) → (exists_in (step - 1) (action_range a) ≡ true) × (exists_in (step - 1) (action_range b) ≡ true)
meets step a b h =
    let p = and_parts (nat_eq ((if nat_lt a.first b.first then b.first else a.first) + 1) step) (nat_le step (a.last + 1) && nat_le step (b.last + 1)) h in
    let q = and_parts (nat_le step (a.last + 1)) (nat_le step (b.last + 1)) p.1 in
    meets_at (nat_lt a.first b.first) step a b refl (eqb-true ((if nat_lt a.first b.first then b.first else a.first) + 1) step p.0) (leb-true step (a.last + 1) q.0) (leb-true step (b.last + 1) q.1)

range_among : Contains layer_rules range_rule
range_among = (0, omega arith, refl)

introduced_among : Contains layer_rules introduced_rule
introduced_among = (5, omega arith, refl)

module _ (program : Program) (layered : IsLayered program) where
  pub range_kept : (number : ℕ) (a : Action) → slice_get program.actions number ≡ Some a → (a.first ≤ a.last) × (a.last ≤ program.layers)
  range_kept number a at =
      let p = or_parts (nat_lt a.last a.first) (nat_lt program.layers a.last) (action_kept layer_rules program layered.layers range_rule range_among number a at) in
      (ltb-false a.last a.first p.0, ltb-false program.layers a.last p.1)

  pub begins : (step number : ℕ) (a : Action) → slice_get program.actions number ≡ Some a → IsTrue (begins_below step a) → exists_in (step - 1) (action_range a) ≡ true
  begins step number a at h =
      let e : a.first + 1 ≡ step = eqb-true (a.first + 1) step h in
      let r = range_kept number a at in
      let w : a.first ≤ a.last = r.0 in
      in_range (step - 1) a (omega arith) (omega arith)

  pub linear_pass : (layer number : ℕ) (a : Action) → slice_get program.actions number ≡ Some a → exists_in layer (action_range a) ≡ true → LinearPass (exists_at layer) program.globals
  linear_pass layer number a at e place g there is =
      let w : a.last ≤ program.layers = (range_kept number a at).1 in
      let v : layer ≤ a.last = leb-true layer a.last (and_parts (nat_le a.first layer) (nat_le layer a.last) e).1 in
      through_in layer (record { first = 0; last = program.layers }) (global_range g)
      (and_from (nat_le 0 layer) (nat_le layer program.layers) (le-leb 0 layer (omega arith)) (le-leb layer program.layers (omega arith)))
      (not-false (exists_through 0 program.layers (global_range g)) (not_second g.linear (not (exists_through 0 program.layers (global_range g))) is (global_kept layer_rules program layered.layers introduced_rule introduced_among place g there)))

  alike : (layer number : ℕ) (x : Invoked) → IsInvoked program number x → exists_in layer (action_range x.action) ≡ true → (s t : Store) → StoresAgree (exists_at layer) program.globals s t → ActsAlike (exists_at layer) program.globals s t x.action x.inputs
  alike layer number x is e s t a = acts_alike (exists_at layer) program.globals s t x.action x.inputs a (uses_what_exists program number layer x.action layered is.action e)

-- ---- values

-- the values of the lower program's globals
abbrev lower : Program → ℕ → Store → List Value
lower program step g = kept (exists_at (step - 1)) program.globals g.values

-- the store that the values give
abbrev given : Program → ℕ → List Value → Store
given program step values = store_of (exists_at (step - 1)) program values

abbrev place : Program → ℕ → ℕ
place program step = count_of (exists_at (step - 1)) program

module _ (program : Program) (step : ℕ) (g : Store) (fit : IsStore program.globals g) where
  given_agrees : (rest : List Value) → StoresAgree (exists_at (step - 1)) program.globals g (given program step (lower program step g ++ rest))
  given_agrees rest = spread_agrees (exists_at (step - 1)) program.globals g.values rest fit

  lower_fit : Fit (lower program step g) (lower_globals program step)
  lower_fit = kept_fit (exists_at (step - 1)) [] program.globals g.values fit

  lower_length : length (lower program step g) ≡ place program step
  lower_length = kept_length (exists_at (step - 1)) program.globals g.values fit

  -- values for what an action has
  of_one : (number : ℕ) (x : Invoked) (vs : List Value) (f : Action → List Variable) → IsInvoked program number x → Fit vs (f x.action) → Fit vs (of_action program number [] f)
  of_one number x vs f is h = subst (λ (o : Option Action). Fit vs (option_map_or f o [])) (sym is.action) h

  of_its : (number : ℕ) (x : Invoked) (f : Action → Bool) → IsInvoked program number x → of_action program number false f ≡ f x.action
  of_its number x f is = ap (λ (o : Option Action). option_map_or f o false) is.action

  -- ---- K2

  keep_says : (x : ℕ) (a : Invoked) → Holds program (Keep step x) → IsInvoked program x a → loses program (given program step (lower program step g ++ instance_of a)) a ≡ false
  unfolding violated variables
  keep_says x a holds is =
      sym (of_its x a (λ c. loses program (given program step values) (invoked values (place program step) c)) is ∙ ap (loses program (given program step values)) (last_is program x a is (lower program step g) (place program step) lower_length))
      ∙ holds values (fit_more (lower program step g) (instance_of a) (lower_globals program step) _ lower_fit (of_one x a (instance_of a) (of_instance (codes "X.")) is (instance_fit program x a is (codes "X."))))
    where
      values : List Value
      values = lower program step g ++ instance_of a

  -- ---- K3 to K7

  pair_says : (number x y : ℕ) (a b : Invoked) → Holds program (Pair number step x y) → IsInvoked program x a → IsInvoked program y b →
      pair_fails program number step (given program step (lower program step g ++ (instance_of a ++ instance_of b))) a b ≡ false
  unfolding violated variables
  pair_says number x y a b holds is there =
      sym (of_its x a (λ c. of_action program y false (λ d. pair_fails program number step store (invoked values (place program step) c) (invoked values (place program step + instance_count c) d))) is
      ∙ (of_its y b (λ d. pair_fails program number step store (invoked values (place program step) a.action) (invoked values (place program step + instance_count a.action) d)) there
      ∙ (ap (λ (c : Invoked). pair_fails program number step store c (invoked values (place program step + instance_count a.action) b.action)) (invoked_is program x a is (lower program step g) (instance_of b) (place program step) lower_length)
      ∙ ap (pair_fails program number step store a) second)))
      ∙ holds values
      (fit_more (lower program step g) (instance_of a ++ instance_of b) (lower_globals program step) _ lower_fit
      (fit_more (instance_of a) (instance_of b) _ _ (of_one x a (instance_of a) (of_instance (codes "X.")) is (instance_fit program x a is (codes "X.")))
      (of_one y b (instance_of b) (of_instance (codes "Y.")) there (instance_fit program y b there (codes "Y.")))))
    where
      values : List Value
      values = lower program step g ++ (instance_of a ++ instance_of b)

      store : Store
      store = given program step values

      second : invoked values (place program step + instance_count a.action) b.action ≡ b
      second =
          ap (λ (vs : List Value). invoked vs (place program step + instance_count a.action) b.action) (sym (append_assoc (lower program step g) (instance_of a) (instance_of b)))
          ∙ last_is program y b there (lower program step g ++ instance_of a) (place program step + instance_count a.action)
          (length-append (lower program step g) (instance_of a) ∙ (ap (λ (n : ℕ). n + length (instance_of a)) lower_length ∙ ap (λ (n : ℕ). place program step + n) (instance_length program x a is)))

  -- ---- K8

  fire_says : (x : ℕ) (a : Invoked) → Holds program (Fire step x) → IsInvoked program x a → waits program (given program step (lower program step g ++ a.inputs)) a ≡ false
  unfolding violated variables
  fire_says x a holds is =
      sym (of_its x a (λ c. waits program (given program step values) (invoked values (place program step) c)) is
      ∙ ap (λ (inputs : List Value). waits program (given program step values) (record { action = a.action; inputs = inputs; chosen = [] })) (last_inputs program x a is (lower program step g) (place program step) lower_length))
      ∙ holds values (fit_more (lower program step g) a.inputs (lower_globals program step) _ lower_fit (of_one x a a.inputs (λ c. of_params (codes "X.") c.params) is (inputs_fit program x a is (codes "X."))))
    where
      values : List Value
      values = lower program step g ++ a.inputs

  -- ---- K1

  start_says : (i : ℕ) → Holds program (Start step i) → start_fails program step i g ≡ false
  unfolding violated variables
  start_says i holds = holds g.values (fit_named (λ x. x.name) (λ x. x.sort) [] program.globals g.values fit)

-- ---- all

pub actions_of_states : ActionsOfStates
actions_of_states program layered = record {
  starts = λ step i g holds fit. start_says program step g fit i holds;
  keeps = λ step x g a holds fit is below.
      let e = begins program layered step x a.action is.action below in
      let values = lower program step g ++ instance_of a in
      same_loses program step (linear_pass program layered (step - 1) x a.action is.action e) a (alike program layered (step - 1) x a is e) g (given program step values) (given_agrees program step g fit (instance_of a))
      ∙ keep_says program step g fit x a holds is;
  pairs = λ number step x y g a b holds fit is there below.
      let e = meets step a.action b.action below in
      let values = lower program step g ++ (instance_of a ++ instance_of b) in
      same_pair program step (linear_pass program layered (step - 1) x a.action is.action e.0) number a b (alike program layered (step - 1) x a is e.0) (alike program layered (step - 1) y b there e.1) g (given program step values)
      (given_agrees program step g fit (instance_of a ++ instance_of b))
      ∙ pair_says program step g fit number x y a b holds is there;
  fires = λ step x g a holds fit is below.
      let e = begins program layered step x a.action is.action below in
      let values = lower program step g ++ a.inputs in
      same_waits program step (linear_pass program layered (step - 1) x a.action is.action e) a (alike program layered (step - 1) x a is e) g (given program step values) (given_agrees program step g fit a.inputs)
      ∙ fire_says program step g fit x a holds is;
}
