use Rattle.civl_conditions.proofs.paths.Layering.{paths_see_their_globals}
use Rattle.civl_conditions.proofs.paths.laws.seen.paths_see_their_globals.Goals as goal

pub returns : goal.returns
returns c = paths_see_their_globals
