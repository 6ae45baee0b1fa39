use Rattle.civl_reasons.proofs.Standing.{parts_stand}
use Rattle.civl_reasons.proofs.laws.parts_stand.Goals as goal

pub returns : goal.returns
returns c = parts_stand
