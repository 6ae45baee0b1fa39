use Rattle.civl_meaning.proofs.Rests.{spot_of_rest}
use Rattle.civl_meaning.proofs.laws.places.rests.Goals as goal

pub returns : goal.returns
returns c = spot_of_rest
