use Rattle.civl_soundness.proofs.Soundness.{run_is_of, reached_is_of}
use Rattle.civl_soundness.proofs.laws.runs_keep_configurations.Goals as goal

pub returns-clause-run : goal.returns-clause-run
returns-clause-run c = run_is_of

pub returns-clause-reached : goal.returns-clause-reached
returns-clause-reached c = reached_is_of
