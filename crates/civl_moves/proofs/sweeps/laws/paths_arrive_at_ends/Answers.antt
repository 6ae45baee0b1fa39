use Rattle.civl_moves.proofs.sweeps.Arriving.{paths_arrive_at_ends}
use Rattle.civl_moves.proofs.sweeps.laws.paths_arrive_at_ends.Goals as goal

pub returns : goal.returns
returns c = paths_arrive_at_ends
