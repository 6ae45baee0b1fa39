use Rattle.civl_clashes.proofs.Targets.{strays_told}
use Rattle.civl_clashes.proofs.laws.strays_are_told.Goals as goal

pub returns : goal.returns
returns c = strays_told
