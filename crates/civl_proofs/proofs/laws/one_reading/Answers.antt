use Rattle.civl_proofs.proofs.Outcomes.{one_reading}
use Rattle.civl_proofs.proofs.laws.one_reading.Goals as goal

pub returns : goal.returns
returns c = one_reading
