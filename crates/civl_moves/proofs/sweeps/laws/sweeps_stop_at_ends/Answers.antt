use Rattle.civl_moves.proofs.sweeps.Stopping.{sweeps_stop_at_ends}
use Rattle.civl_moves.proofs.sweeps.laws.sweeps_stop_at_ends.Goals as goal

pub returns : goal.returns
returns c = sweeps_stop_at_ends
