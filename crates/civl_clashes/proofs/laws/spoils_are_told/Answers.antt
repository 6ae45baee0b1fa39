use Rattle.civl_clashes.proofs.Clashing.{spoils_told}
use Rattle.civl_clashes.proofs.laws.spoils_are_told.Goals as goal

pub returns : goal.returns
returns c = spoils_told
