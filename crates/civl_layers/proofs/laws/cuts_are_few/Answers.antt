use Rattle.civl_layers.proofs.Few.{cuts_are_few}
use Rattle.civl_layers.proofs.laws.cuts_are_few.Goals as goal

pub returns : goal.returns
returns c = cuts_are_few
