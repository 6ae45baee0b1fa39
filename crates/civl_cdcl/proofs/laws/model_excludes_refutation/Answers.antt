use Rattle.civl_cdcl.proofs.Examples.{model_excludes}
use Rattle.civl_cdcl.proofs.laws.model_excludes_refutation.Goals as goal

pub returns : goal.returns
returns c = model_excludes
