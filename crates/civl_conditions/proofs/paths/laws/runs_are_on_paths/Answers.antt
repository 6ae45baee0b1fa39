use Rattle.civl_conditions.proofs.paths.Running.{runs_are_on_paths}
use Rattle.civl_conditions.proofs.paths.laws.runs_are_on_paths.Goals as goal

pub returns : goal.returns
returns c = runs_are_on_paths
