use Rattle.civl_goal_stories.proofs.Standing.{programs_stand}
use Rattle.civl_goal_stories.proofs.laws.programs_stand.Goals as goal

pub returns : goal.returns
returns c = programs_stand
