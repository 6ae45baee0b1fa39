use Rattle.civl_trial.proofs.Spelled.{one_copy_is_spelled}
use Rattle.civl_trial.proofs.laws.one_copy_is_spelled.Goals as goal

pub returns : goal.returns
returns c = one_copy_is_spelled
