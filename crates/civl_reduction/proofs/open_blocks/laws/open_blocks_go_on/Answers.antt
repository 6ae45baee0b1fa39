use Rattle.civl_reduction.proofs.open_blocks.Open.Going.{open_blocks_go_on}
use Rattle.civl_reduction.proofs.open_blocks.laws.open_blocks_go_on.Goals as goal

pub returns : goal.returns
returns c = open_blocks_go_on
