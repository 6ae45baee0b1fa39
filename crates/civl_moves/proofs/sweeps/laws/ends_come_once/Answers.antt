use Rattle.civl_moves.proofs.sweeps.Once.{ends_come_once}
use Rattle.civl_moves.proofs.sweeps.laws.ends_come_once.Goals as goal

pub returns : goal.returns
returns c = ends_come_once
