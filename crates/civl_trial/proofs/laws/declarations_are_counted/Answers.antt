use Rattle.civl_trial.proofs.Numbering.{declarations_are_counted}
use Rattle.civl_trial.proofs.laws.declarations_are_counted.Goals as goal

pub returns : goal.returns
returns c = declarations_are_counted
