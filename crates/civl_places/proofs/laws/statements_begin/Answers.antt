use Rattle.civl_places.proofs.Standing.{statements_begin}
use Rattle.civl_places.proofs.laws.statements_begin.Goals as goal

pub returns : goal.returns
returns c = statements_begin
