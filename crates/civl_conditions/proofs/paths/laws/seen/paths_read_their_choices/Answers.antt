use Rattle.civl_conditions.proofs.paths.Choosing.{paths_read_their_choices}
use Rattle.civl_conditions.proofs.paths.laws.seen.paths_read_their_choices.Goals as goal

pub returns : goal.returns
returns c = paths_read_their_choices
