use Rattle.civl_goal_stories.proofs.Standing.{holds_stand}
use Rattle.civl_goal_stories.proofs.laws.holds_stand.Goals as goal

pub returns : goal.returns
returns c = holds_stand
