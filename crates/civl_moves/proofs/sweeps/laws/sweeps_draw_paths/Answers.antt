use Rattle.civl_moves.proofs.sweeps.Sweeping.{sweeps_draw_paths}
use Rattle.civl_moves.proofs.sweeps.laws.sweeps_draw_paths.Goals as goal

pub returns : goal.returns
returns c = sweeps_draw_paths
