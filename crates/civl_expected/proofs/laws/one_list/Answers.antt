use Rattle.civl_expected.proofs.Chosen.{one_list}
use Rattle.civl_expected.proofs.laws.one_list.Goals as goal

pub returns : goal.returns
returns c = one_list
