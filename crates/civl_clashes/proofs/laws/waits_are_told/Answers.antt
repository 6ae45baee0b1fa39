use Rattle.civl_clashes.proofs.Clashing.{waits_told}
use Rattle.civl_clashes.proofs.laws.waits_are_told.Goals as goal

pub returns : goal.returns
returns c = waits_told
