use Rattle.civl_places.proofs.Rising.{starts_rise}
use Rattle.civl_places.proofs.laws.starts_rise.Goals as goal

pub returns : goal.returns
returns c = starts_rise
