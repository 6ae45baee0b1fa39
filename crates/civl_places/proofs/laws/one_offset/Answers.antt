use Rattle.civl_places.proofs.Order.{one_offset}
use Rattle.civl_places.proofs.laws.one_offset.Goals as goal

pub returns : goal.returns
returns c = one_offset
