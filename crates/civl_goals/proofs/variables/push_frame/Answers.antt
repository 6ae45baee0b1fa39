use Rattle.civl_conditions.proofs.Behind.{none_behind}
use Rattle.civl_goals.specs.Variables.{of_names}
use Rattle.civl_goals.proofs.variables.push_frame.Goals as goal

pub returns-in-None : goal.returns-in-None
returns-in-None c = none_behind (of_names c.args.front.now) c.args.list.now _ c.args.program.now.procs c.args.number c.as_slice.ensures c.in-None.ensures.lookup.3
