use Rattle.civl_losses.specs.Losses.{loss}
use Rattle.civl_losses.proofs.losing.loss_of.Goals as goal

pub returns-in-Path : goal.returns-in-Path
unfolding loss
returns-in-Path c = rw c.in-Path.is c.lost.ensures
