use Rattle.civl_conditions.specs.Variables.{of_params}
use Rattle.civl_conditions.proofs.Behind.{none_behind}
use Rattle.civl_conditions.proofs.variables_all.push_inputs.Goals as goal

pub returns-in-None : goal.returns-in-None
returns-in-None c = none_behind (λ a. of_params c.args.front.now a.params) c.args.list.now _ c.args.program.now.actions c.args.number c.as_slice.ensures c.in-None.ensures.lookup.3
