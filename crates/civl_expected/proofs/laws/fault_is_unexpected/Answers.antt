use Rattle.civl_expected.proofs.Chosen.{fault_is_unexpected}
use Rattle.civl_expected.proofs.laws.fault_is_unexpected.Goals as goal

pub returns : goal.returns
returns g c = fault_is_unexpected
