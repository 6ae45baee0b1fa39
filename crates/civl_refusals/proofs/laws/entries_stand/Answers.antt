use Rattle.civl_refusals.proofs.ScriptsStand.{entries_stand}
use Rattle.civl_refusals.proofs.laws.entries_stand.Goals as goal

pub returns : goal.returns
returns c = entries_stand
