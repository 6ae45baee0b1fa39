use Rattle.civl_reduction.proofs.staged.Reduced.Reducing.{checked_programs_reduce}
use Rattle.civl_reduction.proofs.staged.laws.checked_programs_reduce.Goals as goal

pub returns : goal.returns
returns c = checked_programs_reduce c.reduces.ensures c.inside.ensures.beside c.inside.ensures.safe c.open_blocks_are_bounded.ensures
