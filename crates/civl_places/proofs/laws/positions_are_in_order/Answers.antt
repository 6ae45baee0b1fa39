use Rattle.civl_places.proofs.Order.{in_order}
use Rattle.civl_places.proofs.laws.positions_are_in_order.Goals as goal

pub returns : goal.returns
returns c = in_order
