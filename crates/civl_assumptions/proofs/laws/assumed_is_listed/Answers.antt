use Rattle.civl_assumptions.proofs.Listed.{assumed_is_listed}
use Rattle.civl_assumptions.proofs.laws.assumed_is_listed.Goals as goal

pub returns : goal.returns
returns c = assumed_is_listed
