use Rattle.civl_places.proofs.Standing.{none_behind_exit}
use Rattle.civl_places.proofs.laws.none_behind_exit.Goals as goal

pub returns : goal.returns
returns c = none_behind_exit
