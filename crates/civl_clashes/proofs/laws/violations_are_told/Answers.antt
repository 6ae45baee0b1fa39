use Rattle.civl_clashes.proofs.Violating.{violations_told}
use Rattle.civl_clashes.proofs.laws.violations_are_told.Goals as goal

pub returns : goal.returns
returns c = violations_told
