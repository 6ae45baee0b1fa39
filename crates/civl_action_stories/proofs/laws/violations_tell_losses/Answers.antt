use Rattle.civl_action_stories.proofs.Losing.{violations_tell_losses}
use Rattle.civl_action_stories.proofs.laws.violations_tell_losses.Goals as goal

pub returns : goal.returns
returns c = violations_tell_losses
