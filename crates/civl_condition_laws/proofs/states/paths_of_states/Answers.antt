use Rattle.civl_condition_laws.proofs.Holding.{paths_of_states}
use Rattle.civl_condition_laws.proofs.states.paths_of_states.Goals as goal

pub returns : goal.returns
returns c = paths_of_states
