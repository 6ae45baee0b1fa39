use Rattle.civl_conditions.proofs.paths.Running.{paths_are_runs}
use Rattle.civl_conditions.proofs.paths.laws.paths_are_runs.Goals as goal

pub returns : goal.returns
returns c = paths_are_runs
