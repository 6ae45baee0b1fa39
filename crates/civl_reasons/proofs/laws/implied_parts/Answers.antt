use Rattle.civl_reasons.proofs.Reasoning.{implied_parts}
use Rattle.civl_reasons.proofs.laws.implied_parts.Goals as goal

pub returns : goal.returns
returns c = implied_parts
