use Rattle.civl_reasons.proofs.Reasoning.{parts_tell_truth}
use Rattle.civl_reasons.proofs.laws.parts_tell_truth.Goals as goal

pub returns : goal.returns
returns c = parts_tell_truth
