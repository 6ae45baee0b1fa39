use Rattle.civl_trial.proofs.Fitting.{trial_tokens_may_stand}
use Rattle.civl_trial.proofs.laws.trial_tokens_may_stand.Goals as goal

pub returns : goal.returns
returns c = trial_tokens_may_stand
