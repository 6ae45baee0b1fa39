use Rattle.civl_moves.proofs.sweeps.Sweeping.{sweeps_draw_rests}
use Rattle.civl_moves.proofs.sweeps.laws.sweeps_draw_rests.Goals as goal

pub returns : goal.returns
returns c = sweeps_draw_rests
