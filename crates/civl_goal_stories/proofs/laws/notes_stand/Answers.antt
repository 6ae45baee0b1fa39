use Rattle.civl_goal_stories.proofs.Standing.{notes_stand}
use Rattle.civl_goal_stories.proofs.laws.notes_stand.Goals as goal

pub returns : goal.returns
returns c = notes_stand
