use Rattle.civl_verdicts.proofs.decisions.Numbers as numbers
use Rattle.civl_verdicts.proofs.decisions.laws.each_is_numbered.Goals as goal

pub returns : goal.returns
returns c = numbers.each_is_numbered
