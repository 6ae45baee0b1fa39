use Rattle.civl_safety.proofs.Accepting.{gated_is_safe}
use Rattle.civl_safety.proofs.laws.examples.gated_is_safe.Goals as goal

pub returns : goal.returns
returns c = gated_is_safe c.lowest_is_safe.ensures c.gated.ensures c.held.ensures.proved
