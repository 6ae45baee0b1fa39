use Rattle.civl_goal_terms.proofs.Sorting.{chosen_none}
use Rattle.civl_goal_terms.proofs.sorts.push_chosen.Goals as goal

pub returns-in-None : goal.returns-in-None
returns-in-None c = chosen_none c.args.program.now c.args.statement c.args.sorts.now.items _ c.args.proc c.as_slice.ensures c.in-None.ensures.lookup.3
