use Rattle.civl_annotations.proofs.Running.{start_alike, step_alike, fail_alike}
use Rattle.civl_annotations.proofs.laws.run_alike.Goals as goal

pub returns-clause-starts : goal.returns-clause-starts
returns-clause-starts c = start_alike

pub returns-clause-steps : goal.returns-clause-steps
returns-clause-steps c = step_alike

pub returns-clause-fails : goal.returns-clause-fails
returns-clause-fails c = fail_alike
