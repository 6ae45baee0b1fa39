use Rattle.civl_blast.proofs.reach.Deciding.{reached_variables_decide}
use Rattle.civl_blast.proofs.reach.laws.reached_variables_decide.Goals as goal

pub returns : goal.returns
returns c = reached_variables_decide
