use Rattle.civl_refusals.proofs.ScriptsStand.{moves_stand}
use Rattle.civl_refusals.proofs.laws.moves_stand.Goals as goal

pub returns : goal.returns
returns c = moves_stand
