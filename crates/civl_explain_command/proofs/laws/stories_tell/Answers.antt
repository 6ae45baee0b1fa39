use Rattle.civl_explain_command.proofs.Losing.{stories_tell as law}
use Rattle.civl_explain_command.proofs.laws.stories_tell.Goals as goal

pub returns : goal.returns
returns c = law c.violations_are_told.ensures c.losses_are_told.ensures c.violations_tell_losses.ensures c.losses_tell_losses.ensures
