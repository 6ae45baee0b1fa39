use Rattle.civl_path_stories.proofs.Worked.{worked_story}
use Rattle.civl_path_stories.proofs.laws.worked_story.Goals as goal

pub returns : goal.returns
returns c = worked_story
