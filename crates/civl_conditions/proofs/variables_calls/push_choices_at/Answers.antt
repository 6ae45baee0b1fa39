use Rattle.civl_conditions.proofs.Calls.{none_at}
use Rattle.civl_conditions.proofs.variables_calls.push_choices_at.Goals as goal

pub returns-in-None : goal.returns-in-None
returns-in-None c = none_at (λ stmt. stmt.now) c.args.list.now c.args.program.now c.args.layer c.args.flat.now c.args.number c.in-None.ensures.lookup.3
