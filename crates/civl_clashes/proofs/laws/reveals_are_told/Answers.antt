use Rattle.civl_clashes.proofs.Clashing.{reveals_told}
use Rattle.civl_clashes.proofs.laws.reveals_are_told.Goals as goal

pub returns : goal.returns
returns c = reveals_told
