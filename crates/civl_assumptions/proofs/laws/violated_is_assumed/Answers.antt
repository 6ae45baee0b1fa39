use Rattle.civl_assumptions.proofs.Violating.{violated_is_assumed}
use Rattle.civl_assumptions.proofs.laws.violated_is_assumed.Goals as goal

pub returns : goal.returns
returns c = violated_is_assumed
