use Rattle.civl_trial.proofs.Numbering.{trials_are_numbered}
use Rattle.civl_trial.proofs.laws.trials_are_numbered.Goals as goal

pub returns : goal.returns
returns c = trials_are_numbered
