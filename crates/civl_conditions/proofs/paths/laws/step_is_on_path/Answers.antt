use Rattle.civl_conditions.proofs.paths.Running.{step_is_on_path}
use Rattle.civl_conditions.proofs.paths.laws.step_is_on_path.Goals as goal

pub returns : goal.returns
returns c = step_is_on_path
