use Rattle.civl_meaning.specs.Config.{frame_sorts}
use Rattle.civl_states.proofs.Grouping.{none_behind}
use Rattle.civl_goal_terms.proofs.sorts.push_frame_of.Goals as goal

pub returns-in-None : goal.returns-in-None
returns-in-None c = none_behind frame_sorts c.args.sorts.now.items _ c.args.program.now.procs c.args.number c.as_slice.ensures c.in-None.ensures.lookup.3
