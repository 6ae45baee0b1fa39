use Rattle.civl_history.proofs.Joining.{each_is_told, as_many_as_made}
use Rattle.civl_history.proofs.laws.moves_are_told.Goals as goal

pub returns-clause-each : goal.returns-clause-each
returns-clause-each c = each_is_told c.equality.ensures.values

pub returns-clause-many : goal.returns-clause-many
returns-clause-many c = as_many_as_made
