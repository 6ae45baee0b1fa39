use Rattle.civl_goal_losses.proofs.Telling.{goal_losses_told}
use Rattle.civl_goal_losses.proofs.laws.goal_losses_are_told.Goals as goal

pub returns : goal.returns
returns c = goal_losses_told
