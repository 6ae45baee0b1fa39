-- K11 as tests that are all true, and at the values of all its variables.
use Rattle.std.specs.Prelude.{slice_get}
use Rattle.std.proofs.Common.{◌≡◌, ◌∙◌, ℕ, ◌+◌, ◌*◌, ◌≤◌, ◌<◌, ◌^◌, Bool, true, false, ◌&&◌, List, [], ◌++◌, length, append_assoc, refl, sym, ap, ap₂, arith, Some}
use Rattle.std.proofs.lemmas.List.{length-map, length-append, append-nil}
use Rattle.std.proofs.Math.Bool.{and-true}
use Rattle.civl_bits.specs.declared.value.Value.{Value}
use Rattle.civl_tree.specs.declared.expr.Sort.{Sort}
use Rattle.civl_tree.specs.declared.action.Action.{Action}
use Rattle.civl_tree.specs.declared.program.Program.{Program}
use Rattle.civl_tree.specs.rules.Rules.{Keeps}
use Rattle.civl_tree.specs.rules.Typing.{typing_rules}
use Rattle.civl_firing.specs.values.ActionWeights.{action_weight}
use Rattle.civl_firing.specs.declared.store.Store.{Store}
use Rattle.civl_firing.specs.Fired.{gate_holds, guard_holds, store_after}
use Rattle.civl_meaning.specs.Permissions.{pairwise_disjoint, of_params}
use Rattle.civl_conditions.specs.paths.Seen.{exists_near}
use Rattle.civl_conditions.specs.declared.condition.Condition.TheVariants.{Act}
use Rattle.civl_conditions.specs.declared.condition.Target.TheVariants as target
use Rattle.civl_conditions.specs.Steps.{step_invariants}
use Rattle.civl_conditions.specs.Values.{Invoked as Meant, store_of, count_of, invoked, instance_count}
use Rattle.civl_conditions.specs.Permissions.{in_store}
use Rattle.civl_conditions.specs.Invariants.{invariant_at, invariant_lost, invariants_hold}
use Rattle.civl_conditions.specs.Targets.{act_fails}
use Rattle.civl_conditions.specs.Violated.{violated}
use Rattle.civl_conditions.specs.Weights.{weight, lin, linear_globals, linear_inputs, weights_of, global_weight, maybe_weight}
use Rattle.civl_states.specs.formula_parts.Said.{Env}
use Rattle.civl_states.specs.formula_parts.Given.{given, bits_of_sorts}
use Rattle.civl_states.specs.Items.{comes_in}
use Rattle.civl_states.specs.Runs.{param_sorts, instance_sorts}
use Rattle.civl_meaning.specs.Config.{choice_sorts}
use Rattle.civl_states.specs.Existing.{existing_sorts}
use Rattle.civl_states.specs.declared.stores.Existing.TheVariants.{Near}
use Rattle.civl_states.specs.Groups.{StandFrom}
use Rattle.civl_states.specs.Formulas.{sorts_of}
use Rattle.civl_states.proofs.Firing.{fires_is}
use Rattle.civl_states.proofs.Limits.{AreSorts}
use Rattle.civl_states.proofs.Variables.{there_is, bits_same, act_sorts, instance_long, instance_are}
use Rattle.civl_states.proofs.Taking.{store_given, invoked_given, front_stand, tail_stand, whole_long, whole_few, whole_are}

pub act_is : (program : Program) (step place : ℕ) (g : Store) (a : Action) (i c : List Value)
    → (invariants_hold program step g && (gate_holds program.globals g a i && (pairwise_disjoint (comes_in program a g i ++ []) && (guard_holds program.globals g a i c && (invariant_lost program step place (store_after program.globals g a i c) && true)))))
    ≡ act_fails program step g (record { action = a; inputs = i; chosen = c }) (target.Invariant place) [] 0
act_is program step place g a i c =
    let gs = program.globals in
    ap (λ (b : Bool). invariants_hold program step g && (gate_holds gs g a i && b))
    (ap₂ (λ (ps : List (List ℕ)) (b : Bool). pairwise_disjoint ps && b) (append_assoc (in_store program g) (of_params a.params i) [])
    (ap (λ (b : Bool). guard_holds gs g a i c && b) (and-true (invariant_lost program step place (store_after gs g a i c))) ∙ sym (fires_is program g a i c (λ s. invariant_lost program step place s.0))))

-- ---- at the values of all variables

abbrev pub near_count : Program → ℕ → ℕ
near_count program step = count_of (exists_near step) program

module _ (program : Program) (step x place : ℕ) (a : Action) (at : slice_get program.actions x ≡ Some a) where
  pub acts_are : (env : Env) (n : ℕ) → near_count program step + length a.params + length a.choices ≤ n
      → act_fails program step (store_of (exists_near step) program (given env 0 (near_count program step)))
      (record { action = a; inputs = given env (near_count program step) (length a.params); chosen = given env (near_count program step + length a.params) (length a.choices) }) (target.Invariant place) [] 0
      ≡ violated program (Act step x (target.Invariant place)) (given env 0 n)
  unfolding violated
  acts_are env n l =
      ap₂ (λ (g : Store) (m : Meant). act_fails program step g m (target.Invariant place) [] 0) (sym (store_given (exists_near step) program env n (omega (arith, l)))) (sym (invoked_given env n (near_count program step) a l))
      ∙ sym (there_is (slice_get program.actions x) a false (λ b. act_fails program step (store_of (exists_near step) program (given env 0 n)) (invoked (given env 0 n) (near_count program step) b) (target.Invariant place) (given env 0 n) (near_count program step + instance_count b)) at)

  pub acts_weigh : weight program (Act step x (target.Invariant place))
      ≡ bits_of_sorts (sorts_of program (Act step x (target.Invariant place)))
      + (action_weight program a + weights_of (global_weight program) (step_invariants program step) + 2 * maybe_weight (global_weight program) (invariant_at program step place) + lin program (linear_globals program + linear_inputs a.params + 0))
  unfolding weight
  acts_weigh =
      ap₂ (λ (n m : ℕ). n + m) (bits_same _)
      (there_is (slice_get program.actions x) a 0
      (λ b. action_weight program b + weights_of (global_weight program) (step_invariants program step) + 2 * maybe_weight (global_weight program) (invariant_at program step place) + lin program (linear_globals program + linear_inputs b.params + 0)) at)

  -- ---- the sorts of its variables

  module _ (keeps : Keeps typing_rules program) (sorts : List Sort) (e : sorts ≡ sorts_of program (Act step x (target.Invariant place))) where
    view : sorts ≡ existing_sorts (Near step) program ++ instance_sorts a
    view = e ∙ act_sorts program step x a at (target.Invariant place) ∙ ap (λ ss. existing_sorts (Near step) program ++ ss) (append-nil (instance_sorts a))

    counted : length (instance_sorts a) ≡ instance_count a
    counted = omega (arith, length-append (param_sorts a) (choice_sorts a), length-map a.params (λ p. p.sort), length-map a.choices (λ c. c.sort))

    pub act_front : StandFrom sorts 0 (existing_sorts (Near step) program)
    act_front = front_stand program keeps (Near step) sorts (instance_sorts a) view (Near step) refl

    pub act_tail : (n : ℕ) → n ≡ near_count program step → StandFrom sorts n (instance_sorts a)
    act_tail n same = tail_stand program keeps (Near step) sorts (instance_sorts a) view n same

    pub act_small : length sorts < 2 ^ 32
    act_small = omega (arith, whole_few program keeps (Near step) sorts (instance_sorts a) view 32 (instance_long program keeps x a at))

    pub act_limits : AreSorts sorts
    act_limits = whole_are program keeps (Near step) sorts (instance_sorts a) view (instance_are program keeps x a at)

    pub act_long : length sorts ≡ near_count program step + (length a.params + length a.choices)
    act_long = omega (arith, whole_long program keeps (Near step) sorts (instance_sorts a) view, counted)

    pub act_view : sorts ≡ existing_sorts (Near step) program ++ instance_sorts a
    act_view = view
