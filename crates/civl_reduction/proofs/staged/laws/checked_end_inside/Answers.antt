use Rattle.civl_reduction.proofs.staged.Reduced.Reducing.{checked_end_inside}
use Rattle.civl_reduction.proofs.staged.laws.checked_end_inside.Goals as goal

pub returns : goal.returns
returns c = checked_end_inside c.inside.ensures.beside c.open_blocks_are_bounded.ensures
