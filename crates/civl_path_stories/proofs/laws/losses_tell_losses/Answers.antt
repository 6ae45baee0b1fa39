use Rattle.civl_path_stories.proofs.Losing.{losses_tell_losses}
use Rattle.civl_path_stories.proofs.laws.losses_tell_losses.Goals as goal

pub returns : goal.returns
returns c = losses_tell_losses
