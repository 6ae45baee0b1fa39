use Rattle.civl_trial.proofs.Naming.{trials_have_spelling}
use Rattle.civl_trial.proofs.laws.trials_have_spelling.Goals as goal

pub returns : goal.returns
returns c = trials_have_spelling
