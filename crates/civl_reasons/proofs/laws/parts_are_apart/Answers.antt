use Rattle.civl_reasons.proofs.Standing.{parts_are_apart}
use Rattle.civl_reasons.proofs.laws.parts_are_apart.Goals as goal

pub returns : goal.returns
returns c = parts_are_apart
