use Rattle.civl_reduction.proofs.staged.Bounded.Bounding.{open_blocks_are_bounded}
use Rattle.civl_reduction.proofs.staged.laws.open_blocks_are_bounded.Goals as goal

pub returns : goal.returns
returns c = open_blocks_are_bounded c.stages_are_runs.ensures
