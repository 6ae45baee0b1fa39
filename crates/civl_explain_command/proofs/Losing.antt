-- The story of a condition says where something is lost exactly where the values violate it.
use Rattle.std.specs.Prelude.{is_some}
use Rattle.std.specs.Option.{option_map_or}
use Rattle.std.proofs.Common.{◌≡◌, ◌∙◌, ℕ, Bool, true, false, List, [], Option, None, Some, refl}
use Rattle.civl_bits.specs.declared.value.Value.{Value}
use Rattle.civl_tree.specs.declared.program.Program.{Program}
use Rattle.civl_conditions.specs.declared.condition.Condition.{Condition}
use Rattle.civl_conditions.specs.declared.condition.Condition.TheVariants as condition
use Rattle.civl_conditions.specs.Violated.{violated}
use Rattle.civl_clashes.specs.declared.violations.Violation.{Violation}
use Rattle.civl_clashes.specs.Told.{violation}
use Rattle.civl_clashes.specs.Laws.{ViolationsAreTold, is_told}
use Rattle.civl_losses.specs.declared.loss.Loss.{Loss}
use Rattle.civl_losses.specs.Losses.{loss}
use Rattle.civl_losses.specs.Laws.{LossesAreTold}
use Rattle.civl_lines.specs.declared.line.Line.{Line}
use Rattle.civl_lines.specs.Losing.{tell_loss}
use Rattle.civl_action_stories.specs.Told.{violation_story}
use Rattle.civl_action_stories.specs.Laws.{ViolationsTellLosses}
use Rattle.civl_path_stories.specs.Paths.{path_story}
use Rattle.civl_path_stories.specs.Laws.{LossesTellLosses}
use Rattle.civl_explain_command.specs.Stories.{condition_story}
use Rattle.civl_explain_command.specs.Laws.{StoriesTell}

module _ (told : ViolationsAreTold) (lost : LossesAreTold) (acts : ViolationsTellLosses) (paths : LossesTellLosses) (program : Program) (values : List Value) where
  -- a condition on actions
  of_actions : (c : Condition) → is_told c ≡ true → loss program c values ≡ None → tell_loss (condition_story program c values) ≡ violated program c values
  of_actions c is none = by (violation program c values) refl ∙ told program c values is
    where
      behind : (o : Option Loss) → o ≡ None → tell_loss (option_map_or (path_story program c values) o []) ≡ false
      behind None e = refl
      behind (Some l) e = absurd (cc)

      by : (o : Option Violation) → violation program c values ≡ o
          → tell_loss (option_map_or (violation_story program c values) o (option_map_or (path_story program c values) (loss program c values) [])) ≡ is_some o
      by None e = behind (loss program c values) none
      by (Some v) e = acts program c values v e

  -- a condition on a path
  of_path : (c : Condition) → violation program c values ≡ None → is_some (loss program c values) ≡ violated program c values
      → tell_loss (condition_story program c values) ≡ violated program c values
  of_path c none is = first (violation program c values) none ∙ (by (loss program c values) refl ∙ is)
    where
      first : (o : Option Violation) → o ≡ None
          → tell_loss (option_map_or (violation_story program c values) o (option_map_or (path_story program c values) (loss program c values) []))
          ≡ tell_loss (option_map_or (path_story program c values) (loss program c values) [])
      first None e = refl
      first (Some v) e = absurd (cc)

      by : (o : Option Loss) → loss program c values ≡ o → tell_loss (option_map_or (path_story program c values) o []) ≡ is_some o
      by None e = refl
      by (Some l) e = paths program c values l e

  pub each_tells : (c : Condition) → tell_loss (condition_story program c values) ≡ violated program c values
  unfolding violation loss
  each_tells (condition.Start step i) = of_actions (condition.Start step i) refl refl
  each_tells (condition.Keep step m) = of_actions (condition.Keep step m) refl refl
  each_tells (condition.Pair number step m n) = of_actions (condition.Pair number step m n) refl refl
  each_tells (condition.Fire step m) = of_actions (condition.Fire step m) refl refl
  each_tells (condition.Act step m target) = of_actions (condition.Act step m target) refl refl
  each_tells (condition.Path part step q c) = of_path (condition.Path part step q c) refl (lost program (condition.Path part step q c) values refl)
  each_tells (condition.Block step q c target) = of_path (condition.Block step q c target) refl (lost program (condition.Block step q c target) values refl)

pub stories_tell : ViolationsAreTold → LossesAreTold → ViolationsTellLosses → LossesTellLosses → StoriesTell
stories_tell told lost acts paths program condition values = each_tells told lost acts paths program values condition
