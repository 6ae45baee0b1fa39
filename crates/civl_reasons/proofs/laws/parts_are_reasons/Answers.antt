use Rattle.civl_reasons.proofs.Reasoning.{parts_are_reasons}
use Rattle.civl_reasons.proofs.laws.parts_are_reasons.Goals as goal

pub returns : goal.returns
returns c = parts_are_reasons
