use Rattle.civl_history.proofs.Failed.{failing_stands_there}
use Rattle.civl_history.proofs.laws.failing_stands_there.Goals as goal

pub returns : goal.returns
returns c = failing_stands_there
