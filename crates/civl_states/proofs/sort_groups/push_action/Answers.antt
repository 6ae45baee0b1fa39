use Rattle.civl_states.specs.Runs.{instance_sorts}
use Rattle.civl_states.proofs.Grouping.{none_behind}
use Rattle.civl_states.proofs.sort_groups.push_action.Goals as goal

pub returns-in-None : goal.returns-in-None
returns-in-None c = none_behind instance_sorts c.args.sorts.now.items _ c.args.program.now.actions c.args.number c.as_slice.ensures c.in-None.ensures.lookup.3
