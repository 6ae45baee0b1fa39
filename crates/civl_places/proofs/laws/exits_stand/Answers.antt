use Rattle.civl_places.proofs.Standing.{exits_stand}
use Rattle.civl_places.proofs.laws.exits_stand.Goals as goal

pub returns : goal.returns
returns c = exits_stand
