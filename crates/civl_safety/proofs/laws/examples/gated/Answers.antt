use Rattle.civl_safety.proofs.Accepting.{gated_is_accepted}
use Rattle.civl_safety.proofs.laws.examples.gated.Goals as goal

pub returns : goal.returns
returns c = gated_is_accepted
