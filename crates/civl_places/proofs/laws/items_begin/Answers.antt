use Rattle.civl_places.proofs.Standing.{items_begin}
use Rattle.civl_places.proofs.laws.items_begin.Goals as goal

pub returns : goal.returns
returns c = items_begin
