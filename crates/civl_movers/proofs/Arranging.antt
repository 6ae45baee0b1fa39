-- What it is to violate a condition on actions, at the values of all its variables; and its weight.
use Rattle.std.specs.Prelude.{map, filter, slice_get}
use Rattle.std.proofs.Common.{◌≡◌, ◌∙◌, ℕ, ◌+◌, ◌-◌, ◌*◌, ◌≤◌, false, List, [], ◌∷◌, length, refl, sym, ap, ap₂, arith, Some}
use Rattle.civl_bits.specs.declared.value.Value.{Value}
use Rattle.civl_tree.specs.declared.expr.Sort.{Sort}
use Rattle.civl_tree.specs.declared.action.Action.{Action}
use Rattle.civl_tree.specs.declared.action.Param.{Param}
use Rattle.civl_tree.specs.declared.program.Program.{Program}
use Rattle.civl_tree.specs.rules.StoreSize.{bits_of}
use Rattle.civl_firing.specs.values.ActionWeights.{gate_weight, guard_weight, offers_weight, action_weight}
use Rattle.civl_firing.specs.declared.store.Store.{Store}
use Rattle.civl_conditions.specs.footprints.Agreement.{exists_at}
use Rattle.civl_conditions.specs.declared.condition.Condition.TheVariants.{Keep, Pair, Fire}
use Rattle.civl_conditions.specs.Steps.{of_action}
use Rattle.civl_conditions.specs.Values.{Invoked as Meant, store_of, invoked, instance_count}
use Rattle.civl_conditions.specs.Movers.{loses, waits, pair_fails}
use Rattle.civl_conditions.specs.Violated.{violated}
use Rattle.civl_conditions.specs.Weights.{weight, keep_weight, pair_weight, globals_bits, outs_bits}
use Rattle.civl_states.specs.formula_parts.Said.{Env}
use Rattle.civl_states.specs.formula_parts.Given.{given, bits_of_sorts}
use Rattle.civl_states.specs.Runs.{out_sorts}
use Rattle.civl_states.specs.Same.{layer_sorts, same_weight}
use Rattle.civl_states.specs.Formulas.{sorts_of}
use Rattle.civl_states.proofs.Limits.{AreSorts}
use Rattle.civl_states.proofs.Given.{part_given}
use Rattle.civl_states.proofs.Variables.{there_is, bits_same, globals_named, long_bits}
use Rattle.civl_states.proofs.Taking.{store_given, invoked_given}
use Rattle.civl_states.proofs.Weighing.{gate_weighs, guard_weighs}
use Rattle.civl_movers.specs.Runs.{invoke}
use Rattle.civl_movers.specs.Settings.{lower_count}

-- the store of the first variables, and the action behind a number of them
abbrev pub lower_store : Program → ℕ → Env → Store
lower_store program step env = store_of (exists_at (step - 1)) program (given env 0 (lower_count program step))

abbrev pub from : Action → ℕ → Env → Meant
from a first env = invoke a (given env first (length a.params)) (given env (first + length a.params) (length a.choices))

module _ (program : Program) (step x : ℕ) (a : Action) (at : slice_get program.actions x ≡ Some a) (env : Env) (n : ℕ) where
  pub keep_is : lower_count program step + length a.params + length a.choices ≤ n → loses program (lower_store program step env) (from a (lower_count program step) env) ≡ violated program (Keep step x) (given env 0 n)
  unfolding violated
  keep_is l =
      ap₂ (λ (g : Store) (m : Meant). loses program g m) (sym (store_given (exists_at (step - 1)) program env n (omega (arith, l)))) (sym (invoked_given env n (lower_count program step) a l))
      ∙ sym (there_is (slice_get program.actions x) a false (λ b. loses program (store_of (exists_at (step - 1)) program (given env 0 n)) (invoked (given env 0 n) (lower_count program step) b)) at)

  pub pair_is : (number y : ℕ) (b : Action) → slice_get program.actions y ≡ Some b → lower_count program step + instance_count a + length b.params + length b.choices ≤ n
      → pair_fails program number step (lower_store program step env) (from a (lower_count program step) env) (from b (lower_count program step + instance_count a) env) ≡ violated program (Pair number step x y) (given env 0 n)
  unfolding violated
  pair_is number y b bt l =
      let g = store_of (exists_at (step - 1)) program (given env 0 n) in
      let first = λ (d : Action). invoked (given env 0 n) (lower_count program step) d in
      ap₂ (λ (g : Store) (m : Meant). pair_fails program number step g m (from b (lower_count program step + instance_count a) env)) (sym (store_given (exists_at (step - 1)) program env n (omega (arith, l)))) (sym (invoked_given env n (lower_count program step) a (omega (arith, l))))
      ∙ ap (λ (m : Meant). pair_fails program number step g (first a) m) (sym (invoked_given env n (lower_count program step + instance_count a) b l))
      ∙ sym (there_is (slice_get program.actions y) b false (λ d. pair_fails program number step g (first a) (invoked (given env 0 n) (lower_count program step + instance_count a) d)) bt)
      ∙ sym (there_is (slice_get program.actions x) a false (λ d. of_action program y false (λ e. pair_fails program number step g (first d) (invoked (given env 0 n) (lower_count program step + instance_count d) e))) at)

  pub fire_is : lower_count program step + length a.params ≤ n → waits program (lower_store program step env) (invoke a (given env (lower_count program step) (length a.params)) []) ≡ violated program (Fire step x) (given env 0 n)
  unfolding violated
  fire_is l =
      ap₂ (λ (g : Store) (i : List Value). waits program g (invoke a i [])) (sym (store_given (exists_at (step - 1)) program env n (omega (arith, l)))) (sym (part_given env n (lower_count program step) (length a.params) l))
      ∙ sym (there_is (slice_get program.actions x) a false (λ b. waits program (store_of (exists_at (step - 1)) program (given env 0 n)) (invoked (given env 0 n) (lower_count program step) b)) at)

-- ---- weights

module _ (program : Program) (step x : ℕ) (a : Action) (at : slice_get program.actions x ≡ Some a) where
  pub keep_weighs : weight program (Keep step x) ≡ bits_of_sorts (sorts_of program (Keep step x)) + keep_weight program a
  unfolding weight
  keep_weighs = ap₂ (λ (n m : ℕ). n + m) (bits_same _) (there_is (slice_get program.actions x) a 0 (keep_weight program) at)

  pub fire_weighs : weight program (Fire step x) ≡ bits_of_sorts (sorts_of program (Fire step x)) + (gate_weight program a + guard_weight program a + offers_weight program a)
  unfolding weight
  fire_weighs = ap₂ (λ (n m : ℕ). n + m) (bits_same _) (there_is (slice_get program.actions x) a 0 (λ a. gate_weight program a + guard_weight program a + offers_weight program a) at)

  pub pair_weighs : (number y : ℕ) (b : Action) → slice_get program.actions y ≡ Some b → weight program (Pair number step x y) ≡ bits_of_sorts (sorts_of program (Pair number step x y)) + pair_weight program step a b
  unfolding weight
  pair_weighs number y b bt =
      ap₂ (λ (n m : ℕ). n + m) (bits_same _)
      (there_is (slice_get program.actions x) a 0 (λ c. of_action program y 0 (pair_weight program step c)) at ∙ there_is (slice_get program.actions y) b 0 (pair_weight program step a) bt)

-- an action weighs something
pub action_weighs : (program : Program) (a : Action) → 2 ≤ action_weight program a
action_weighs program a = omega (arith, gate_weighs program a, guard_weighs program a)

-- to compare values of sorts within the limits weighs no more than twice their bits
pub same_bits : (ss : List Sort) → AreSorts ss → same_weight ss ≤ 2 * bits_of_sorts ss
same_bits ss h = omega (arith, long_bits ss h)

summed_outs : (outs : List Param) → outs_bits outs ≡ bits_of_sorts (map (λ p. p.sort) outs)
summed_outs [] = refl
summed_outs (p ∷ ps) = ap (λ n. bits_of p.sort + n) (summed_outs ps)

pub outs_same : (a : Action) → outs_bits a.outs ≡ bits_of_sorts (out_sorts a)
outs_same a = summed_outs a.outs

pub globals_same : (program : Program) (layer : ℕ) → globals_bits program layer ≡ bits_of_sorts (layer_sorts program layer)
globals_same program layer = bits_same _ ∙ ap bits_of_sorts (globals_named [] (filter (exists_at layer) program.globals))
