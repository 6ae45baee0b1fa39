use Rattle.civl_goal_stories.proofs.Standing.{notes_are_written}
use Rattle.civl_goal_stories.proofs.laws.notes_are_written.Goals as goal

pub returns : goal.returns
returns c = notes_are_written
