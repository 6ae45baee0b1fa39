use Rattle.civl_portfolio.proofs.Samples.{rounds}
use Rattle.civl_portfolio.proofs.laws.rounds_over_samples.Goals as goal

pub returns : goal.returns
returns c = rounds
