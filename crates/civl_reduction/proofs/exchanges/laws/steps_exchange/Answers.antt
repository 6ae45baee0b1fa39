use Rattle.civl_reduction.proofs.exchanges.Exchanging.{steps_exchange}
use Rattle.civl_reduction.proofs.exchanges.laws.steps_exchange.Goals as goal

pub returns : goal.returns
returns c = steps_exchange
