use Rattle.civl_reduction.proofs.mover_laws.Exchanging.{neighbours_exchange}
use Rattle.civl_reduction.proofs.mover_laws.laws.neighbours_exchange.Goals as goal

pub returns : goal.returns
returns c = neighbours_exchange
