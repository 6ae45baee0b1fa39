use Rattle.civl_path_stories.proofs.Chains.{none_there}
use Rattle.civl_goal_stories.proofs.assumed.push_elsewhere.Goals as goal

pub returns-in-None : goal.returns-in-None
returns-in-None c =
    none_there _ c.args.lines.now.items _ c.args.outline.now.program.procs c.args.number c.as_slice.ensures c.in-None.ensures.lookup.3
