use Rattle.civl_path_stories.proofs.Chains.{behind_one}
use Rattle.civl_path_stories.proofs.notes.push_said.Goals as goal

pub returns : goal.returns
returns c = behind_one _ _ c.args.lines.now.items _ _ c.in_ok-push_lost.ensures c.in_ok-push_note.ensures
