use Rattle.civl_history.proofs.Standing.{statements_stand}
use Rattle.civl_history.proofs.laws.statements_stand.Goals as goal

pub returns : goal.returns
returns c = statements_stand
