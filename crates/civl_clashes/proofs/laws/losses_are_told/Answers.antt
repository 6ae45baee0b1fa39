use Rattle.civl_clashes.proofs.Losses.{losses_told}
use Rattle.civl_clashes.proofs.laws.losses_are_told.Goals as goal

pub returns : goal.returns
returns c = losses_told
