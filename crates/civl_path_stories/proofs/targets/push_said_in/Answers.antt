use Rattle.civl_path_stories.proofs.Chains.{none_here}
use Rattle.civl_path_stories.proofs.targets.push_said_in.Goals as goal

pub returns-in-None : goal.returns-in-None
returns-in-None c = none_here _ c.args.lines.now.items _ _ c.in_ok-found.ensures c.in-None.is
