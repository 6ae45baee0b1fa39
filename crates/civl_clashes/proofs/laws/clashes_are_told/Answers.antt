use Rattle.civl_clashes.proofs.Clashing.{clashes_told}
use Rattle.civl_clashes.proofs.laws.clashes_are_told.Goals as goal

pub returns : goal.returns
returns c = clashes_told
