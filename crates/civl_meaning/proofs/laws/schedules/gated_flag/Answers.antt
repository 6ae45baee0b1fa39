use Rattle.civl_meaning.proofs.Schedules.{gated_can_fail}
use Rattle.civl_meaning.proofs.laws.schedules.gated_flag.Goals as goal

pub returns : goal.returns
returns c = gated_can_fail
