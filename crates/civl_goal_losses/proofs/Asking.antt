-- What is told of a statement, at other words for the store, the frame and the choices.
use Rattle.std.proofs.Common.{◌≡◌, ◌+◌, ℕ, List, length, drop}
use Rattle.std.specs.Prelude.{Option, None, if◌then◌else◌}
use Rattle.civl_bits.specs.declared.value.Value.{Value}
use Rattle.civl_tree.specs.declared.program.Program.{Program}
use Rattle.civl_outlines.specs.declared.outline.Outline.{Outline}
use Rattle.civl_firing.specs.declared.store.Store.{Store}
use Rattle.civl_meaning.specs.declared.config.Activation.{Activation}
use Rattle.civl_goals.specs.declared.goal.Goal.{Goal}
use Rattle.civl_goals.specs.Variables.{choices_at}
use Rattle.civl_goals.specs.Failed.{assumed, behind_frame, chosen_of, does, frame_of, store_in}
use Rattle.civl_goal_losses.specs.declared.losses.GoalLoss.{GoalLoss}
use Rattle.civl_goal_losses.specs.GoalLosses.{step_loss}
use Rattle.civl_goal_losses.specs.inner.Asked.{loss_by}

module _ (program : Program) (outline : Outline) (goal : Goal) (r s : ℕ) (values : List Value) where
  abbrev pub frame_with : List Value → Activation
  frame_with locals = record { procedure = r; place = s; locals = locals }

  abbrev pub told_with : Store → List Value → List Value → List Value → Option GoalLoss
  told_with g locals chosen rest =
      if◌then◌else◌ {A = Option GoalLoss} (assumed program outline g (frame_with locals)) (loss_by program outline goal rest g (frame_with locals) (does program g (frame_with locals) chosen)) None

  pub told_so : (g : Store) (locals chosen rest : List Value) → g ≡ store_in program values → locals ≡ (frame_of program values r s).locals → chosen ≡ chosen_of program values r s
      → rest ≡ drop (behind_frame program r + length (choices_at program r s)) values
      → told_with g locals chosen rest ≡ step_loss program outline values r s (loss_by program outline goal (drop (behind_frame program r + length (choices_at program r s)) values))
  told_so g locals chosen rest e f h k = λ i. told_with (e i) (f i) (h i) (k i)
