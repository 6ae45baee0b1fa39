use Rattle.std.proofs.Common.{rules}
use Rattle.civl_circuits.proofs.Starting.{start_is}
use Rattle.civl_circuits.proofs.constants.start.Goals as goal

pub returns : goal.returns
returns c = start_is _ _ _ (search rules) (search rules)
