use Rattle.civl_cdcl.proofs.Examples.{half_models}
use Rattle.civl_cdcl.proofs.laws.half_has_models.Goals as goal

pub returns : goal.returns
returns c = half_models
