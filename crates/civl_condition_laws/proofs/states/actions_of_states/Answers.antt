use Rattle.civl_condition_laws.proofs.Meeting.{actions_of_states}
use Rattle.civl_condition_laws.proofs.states.actions_of_states.Goals as goal

pub returns : goal.returns
returns c = actions_of_states
