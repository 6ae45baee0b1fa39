use Rattle.civl_cdcl.proofs.Examples.{square_refuted}
use Rattle.civl_cdcl.proofs.laws.square_is_refuted.Goals as goal

pub returns : goal.returns
returns c = square_refuted
