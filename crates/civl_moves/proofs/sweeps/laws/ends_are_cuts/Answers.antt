use Rattle.civl_moves.proofs.sweeps.AtCuts.{ends_are_cuts}
use Rattle.civl_moves.proofs.sweeps.laws.ends_are_cuts.Goals as goal

pub returns : goal.returns
returns c = ends_are_cuts
