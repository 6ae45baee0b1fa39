use Rattle.civl_reduction.proofs.staged.Measures.Nearing.{open_blocks_come_nearer}
use Rattle.civl_reduction.proofs.staged.laws.open_blocks_come_nearer.Goals as goal

pub returns : goal.returns
returns c = open_blocks_come_nearer
