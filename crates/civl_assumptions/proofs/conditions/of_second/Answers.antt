use Rattle.civl_path_stories.proofs.Chains.{none_there}
use Rattle.civl_assumptions.proofs.conditions.of_second.Goals as goal

pub returns-in-None : goal.returns-in-None
returns-in-None c =
    none_there _ c.args.lines.now.items _ c.args.program.now.actions c.args.second c.as_slice.ensures c.in-None.ensures.lookup.3
