use Rattle.civl_provers.proofs.Squares.{tries}
use Rattle.civl_provers.proofs.laws.tries_in_order.Goals as goal

pub returns : goal.returns
returns c = tries
