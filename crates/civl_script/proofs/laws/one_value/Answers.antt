use Rattle.civl_script.proofs.One.{one_value}
use Rattle.civl_script.proofs.laws.one_value.Goals as goal

pub returns : goal.returns
returns c = one_value
