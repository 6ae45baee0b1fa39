-- What is told of a frame's statement, by the goal.
use Rattle.std.specs.Prelude.{List, take, Option, None}
use Rattle.civl_bits.specs.declared.value.Value.{Value}
use Rattle.civl_tree.specs.declared.program.Program.{Program}
use Rattle.civl_outlines.specs.declared.outline.Outline.{Outline}
use Rattle.civl_firing.specs.declared.store.Store.{Store}
use Rattle.civl_meaning.specs.declared.config.Activation.{Activation}
use Rattle.civl_meaning.specs.declared.config.Change.{Change}
use Rattle.civl_goals.specs.declared.goal.Goal.{Goal}
use Rattle.civl_goals.specs.declared.goal.Goal.TheVariants as goal
use Rattle.civl_goals.specs.Variables.{frame_count}
use Rattle.civl_goal_losses.specs.declared.losses.GoalLoss.{GoalLoss}
use Rattle.civl_goal_losses.specs.GoalLosses.{safe_loss, keep_loss, spawn_loss, next_loss, other_loss}

-- the values of another thread's frame stand first among these
abbrev pub loss_by : Program → Outline → Goal → List Value → Store → Activation → Change → Option GoalLoss
loss_by program outline (goal.Safe r s) rest g frame change = safe_loss program g frame change
loss_by program outline (goal.Keep r s) rest g frame change = keep_loss program outline g frame change
loss_by program outline (goal.Spawn r s) rest g frame change = spawn_loss program outline g frame change
loss_by program outline (goal.Next r s) rest g frame change = next_loss program outline g frame change
loss_by program outline (goal.Other r s q t) rest g frame change =
    other_loss program outline (record { procedure = q; place = t; locals = take (frame_count program q) rest }) g frame change
loss_by program outline goal.Invariant rest g frame change = None
loss_by program outline (goal.Thread i) rest g frame change = None
loss_by program outline (goal.Linear x) rest g frame change = None
