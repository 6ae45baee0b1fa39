use Rattle.civl_expected.proofs.Chosen.{exactly_those}
use Rattle.civl_expected.proofs.laws.exactly_those.Goals as goal

pub returns : goal.returns
returns c = exactly_those
