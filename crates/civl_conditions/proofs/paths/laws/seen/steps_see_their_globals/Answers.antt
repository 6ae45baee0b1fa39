use Rattle.civl_conditions.proofs.paths.Layering.{steps_see_their_globals}
use Rattle.civl_conditions.proofs.paths.laws.seen.steps_see_their_globals.Goals as goal

pub returns : goal.returns
returns c = steps_see_their_globals
