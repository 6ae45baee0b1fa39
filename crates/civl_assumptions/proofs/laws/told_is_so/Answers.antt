use Rattle.civl_assumptions.proofs.Violating.{told_is_so}
use Rattle.civl_assumptions.proofs.laws.told_is_so.Goals as goal

pub returns : goal.returns
returns c = told_is_so
