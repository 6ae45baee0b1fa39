use Rattle.civl_yields.proofs.Growing.{head_is_least}
use Rattle.civl_yields.proofs.laws.head_is_least.Goals as goal

pub returns : goal.returns
returns c = head_is_least
