use Rattle.civl_expected.proofs.Chosen.{those_that_pass}
use Rattle.civl_expected.proofs.laws.those_that_pass.Goals as goal

pub returns : goal.returns
returns c = those_that_pass
