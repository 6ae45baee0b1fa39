use Rattle.civl_states.specs.Runs.{param_sorts}
use Rattle.civl_states.proofs.Grouping.{none_behind}
use Rattle.civl_states.proofs.sorts.push_inputs.Goals as goal

pub returns-in-None : goal.returns-in-None
returns-in-None c = none_behind param_sorts c.args.sorts.now.items _ c.args.program.now.actions c.args.number c.as_slice.ensures c.in-None.ensures.lookup.3
