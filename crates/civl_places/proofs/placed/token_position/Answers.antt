use Rattle.civl_places.proofs.Offsets.{start_fits, begins_at}
use Rattle.civl_places.proofs.placed.token_position.Goals as goal

pub position_at-requires : goal.position_at-requires
position_at-requires c = start_fits _ _ _ _ c.requires.starts c.requires.there

pub returns : goal.returns
returns c = begins_at _ _ _ _ _ c.requires.starts c.requires.there c.position_at.ensures.line c.position_at.ensures.column
