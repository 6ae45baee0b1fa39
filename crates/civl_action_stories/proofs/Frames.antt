-- The frame of another thread whose values stand behind others.
use Rattle.std.proofs.Common.{◌≡◌, ◌∙◌, ℕ, ◌+◌, List, [], refl, ap, drop, get_or, arith}
use Rattle.std.proofs.lemmas.List.{get_or-drop}
use Rattle.civl_bits.specs.declared.value.Value.{Value}
use Rattle.civl_tree.specs.declared.program.Proc.{Proc}
use Rattle.civl_tree.specs.declared.program.Program.{Program}
use Rattle.civl_firing.specs.declared.store.Store.{Store}
use Rattle.civl_firing.specs.values.Operators.{nothing}
use Rattle.civl_firing.specs.values.Values.{is_true}
use Rattle.civl_conditions.specs.declared.condition.Target.{Target}
use Rattle.civl_conditions.specs.declared.condition.Target.TheVariants as target
use Rattle.civl_conditions.specs.Steps.{of_cut}
use Rattle.civl_conditions.specs.Targets.{frame_size, other_of}
use Rattle.civl_conditions.specs.Values.{part}
use Rattle.civl_action_stories.specs.Strays.{target_story, yield_story}

module _ (values : List Value) (at : ℕ) where
  flag_behind : (n : ℕ) → get_or (drop at values) (0 + n) nothing ≡ get_or values (at + n) nothing
  flag_behind n = get_or-drop at values (0 + n) nothing ∙ ap (λ (k : ℕ). get_or values k nothing) (omega arith)

  other_behind : (proc : Proc) → other_of proc (drop at values) 0 ≡ other_of proc values at
  other_behind proc = λ i. record { locals = part values at (frame_size proc); done = is_true (flag_behind (frame_size proc) i) }

  target_behind : (program : Program) (step : ℕ) (g : Store) (aim : Target) → target_story program step g (drop at values) 0 aim ≡ target_story program step g values at aim
  target_behind program step g (target.Invariant n) = refl
  target_behind program step g (target.Yield q c) = λ i. of_cut program q c [] (λ proc cut. yield_story program q g proc cut (other_behind proc i))

-- where these values are those behind a place
pub target_as : (program : Program) (step : ℕ) (g : Store) (aim : Target) (rest values : List Value) (at : ℕ) → rest ≡ drop at values
    → target_story program step g rest 0 aim ≡ target_story program step g values at aim
target_as program step g aim rest values at is =
    ap (λ (vs : List Value). target_story program step g vs 0 aim) is ∙ target_behind values at program step g aim
