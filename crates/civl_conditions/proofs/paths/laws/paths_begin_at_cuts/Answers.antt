use Rattle.civl_conditions.proofs.paths.Beginning.{paths_begin_at_cuts}
use Rattle.civl_conditions.proofs.paths.laws.paths_begin_at_cuts.Goals as goal

pub returns : goal.returns
returns c = paths_begin_at_cuts
