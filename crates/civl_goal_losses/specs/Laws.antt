-- A loss is told exactly where values violate a goal of an outline.
use Rattle.std.specs.Prelude.{◌≡◌, List, is_some}
use Rattle.civl_bits.specs.declared.value.Value.{Value}
use Rattle.civl_tree.specs.declared.program.Program.{Program}
use Rattle.civl_outlines.specs.declared.outline.Outline.{Outline}
use Rattle.civl_goals.specs.declared.goal.Goal.{Goal}
use Rattle.civl_goals.specs.Failed.{failed}
use Rattle.civl_goal_losses.specs.GoalLosses.{goal_loss}

abbrev pub GoalLossesAreTold : Type 0
GoalLossesAreTold =
    (program : Program) (outline : Outline) (goal : Goal) (values : List Value) →
    is_some (goal_loss program outline goal values) ≡ failed program outline goal values
