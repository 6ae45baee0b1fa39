use Rattle.civl_conditions.proofs.paths.Choosing.{rests_read_their_choices}
use Rattle.civl_conditions.proofs.paths.laws.seen.rests_read_their_choices.Goals as goal

pub returns : goal.returns
returns c = rests_read_their_choices
