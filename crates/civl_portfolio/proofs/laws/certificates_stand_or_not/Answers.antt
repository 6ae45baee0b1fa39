use Rattle.civl_portfolio.proofs.Samples.{certificates}
use Rattle.civl_portfolio.proofs.laws.certificates_stand_or_not.Goals as goal

pub returns : goal.returns
returns c = certificates
