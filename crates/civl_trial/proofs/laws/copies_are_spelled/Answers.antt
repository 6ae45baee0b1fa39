use Rattle.civl_trial.proofs.Spelled.{copies_are_spelled}
use Rattle.civl_trial.proofs.laws.copies_are_spelled.Goals as goal

pub returns : goal.returns
returns c = copies_are_spelled
