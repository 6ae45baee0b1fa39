-- The bits of the variables of each kind of condition, group by group.
use Rattle.std.proofs.Common.{◌≡◌, ℕ, ◌+◌, ◌-◌, List, [], refl, sym, ap, ◌∙◌, Option, None, Some}
use Rattle.std.specs.Prelude.{slice_get, codes}
use Rattle.std.specs.Option.{option_map_or}
use Rattle.civl_tree.specs.declared.action.Action.{Action}
use Rattle.civl_tree.specs.declared.program.Program.{Program}
use Rattle.civl_conditions.specs.declared.condition.Condition.TheVariants.{Start, Keep, Pair, Fire, Act}
use Rattle.civl_conditions.specs.declared.condition.Target.{Target}
use Rattle.civl_conditions.specs.declared.condition.Variable.{Variable}
use Rattle.civl_conditions.specs.Steps.{of_action}
use Rattle.civl_conditions.specs.Invariants.{invariant_at}
use Rattle.civl_conditions.specs.Variables.{of_globals, of_params, of_choices, of_instance, lower_globals, near_globals, other_variables, variables}
use Rattle.civl_conditions.specs.Weights.{bits_of_variables, outs_bits, globals_bits, global_weight, initial_own, own_weight, weight}
use Rattle.civl_weights.specs.Kinds.{instance_bits}
use Rattle.civl_weighing.proofs.Summing.{bits_append}
use Rattle.civl_weights.proofs.sums.Groups.{params_bits_are, choices_bits_are, two_groups}

pub instance_are : (front : List ℕ) (a : Action) → bits_of_variables (of_instance front a) ≡ instance_bits a
instance_are front a = bits_append (of_params front a.params) (of_choices front a.choices) ∙ ap (λ (n : ℕ). n + bits_of_variables (of_choices front a.choices)) (params_bits_are front a.params) ∙ ap (λ (n : ℕ). outs_bits a.params + n) (choices_bits_are front a.choices)

-- where there is an action
maybe_bits : (f : Action → List Variable) (n : Action → ℕ) → ((a : Action) → bits_of_variables (f a) ≡ n a) → (found : Option Action) → bits_of_variables (option_map_or f found []) ≡ option_map_or n found 0
maybe_bits f n h None = refl
maybe_bits f n h (Some a) = h a

module _ (program : Program) where
  pub instances : (front : List ℕ) (x : ℕ) → bits_of_variables (of_action program x [] (of_instance front)) ≡ of_action program x 0 instance_bits
  instances front x = maybe_bits (of_instance front) instance_bits (instance_are front) (slice_get program.actions x)

  inputs : (front : List ℕ) (x : ℕ) → bits_of_variables (of_action program x [] (λ a. of_params front a.params)) ≡ of_action program x 0 (λ a. outs_bits a.params)
  inputs front x = maybe_bits (λ a. of_params front a.params) (λ a. outs_bits a.params) (λ a. params_bits_are front a.params) (slice_get program.actions x)

  pub keep_is : (step x : ℕ) → globals_bits program (step - 1) + of_action program x 0 instance_bits + own_weight program (Keep step x) ≡ weight program (Keep step x)
  unfolding weight variables
  keep_is step x = ap (λ (i : ℕ). i + own_weight program (Keep step x)) (two_groups (lower_globals program step) _ refl (instances (codes "X.") x))

  pub pair_is : (number step x y : ℕ) → globals_bits program (step - 1) + (of_action program x 0 instance_bits + of_action program y 0 instance_bits) + own_weight program (Pair number step x y) ≡ weight program (Pair number step x y)
  unfolding weight variables
  pair_is number step x y =
      ap (λ (i : ℕ). i + own_weight program (Pair number step x y))
      (two_groups (lower_globals program step) _ refl (sym (two_groups _ _ (instances (codes "X.") x) (instances (codes "Y.") y))))

  pub fire_is : (step x : ℕ) → globals_bits program (step - 1) + of_action program x 0 (λ a. outs_bits a.params) + own_weight program (Fire step x) ≡ weight program (Fire step x)
  unfolding weight variables
  fire_is step x = ap (λ (i : ℕ). i + own_weight program (Fire step x)) (two_groups (lower_globals program step) _ refl (inputs (codes "X.") x))

  pub act_is : (step x : ℕ) (t : Target) → bits_of_variables (near_globals [] program step) + (of_action program x 0 instance_bits + bits_of_variables (other_variables program t)) + own_weight program (Act step x t) ≡ weight program (Act step x t)
  unfolding weight variables
  act_is step x t =
      ap (λ (i : ℕ). i + own_weight program (Act step x t))
      (two_groups (near_globals [] program step) _ refl (sym (two_groups _ (other_variables program t) (instances (codes "X.") x) refl)))

  pub start_is : (step i : ℕ) → bits_of_variables (of_globals [] program.globals) + (initial_own program + option_map_or (global_weight program) (invariant_at program step i) 0) ≡ weight program (Start step i)
  unfolding weight variables
  start_is step i = refl
