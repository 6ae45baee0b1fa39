use Rattle.civl_clashes.proofs.Violating.{starts_told}
use Rattle.civl_clashes.proofs.laws.starts_are_told.Goals as goal

pub returns : goal.returns
returns c = starts_told
