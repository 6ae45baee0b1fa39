use Rattle.civl_losses.proofs.Conditions.{losses_are_told as told}
use Rattle.civl_losses.proofs.laws.losses_are_told.Goals as goal

pub returns : goal.returns
returns c = told c.traces_are_of_paths.ensures c.traces_end_so.ensures
