use Rattle.civl_conditions.specs.Variables.{of_instance}
use Rattle.civl_conditions.proofs.Behind.{none_behind}
use Rattle.civl_conditions.proofs.variables_all.push_action.Goals as goal

pub returns-in-None : goal.returns-in-None
returns-in-None c = none_behind (of_instance c.args.front.now) c.args.list.now _ c.args.program.now.actions c.args.number c.as_slice.ensures c.in-None.ensures.lookup.3
