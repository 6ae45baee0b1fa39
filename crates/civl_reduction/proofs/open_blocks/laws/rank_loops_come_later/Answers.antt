use Rattle.civl_reduction.proofs.open_blocks.Rounds.Coming.{rank_loops_come_later}
use Rattle.civl_reduction.proofs.open_blocks.laws.rank_loops_come_later.Goals as goal

pub returns : goal.returns
returns c = rank_loops_come_later
