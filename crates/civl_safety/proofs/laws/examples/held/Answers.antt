use Rattle.civl_safety.proofs.Gated.{held_is_outlined, silent_is_not}
use Rattle.civl_safety.proofs.laws.examples.held.Goals as goal

pub returns-clause-proved : goal.returns-clause-proved
returns-clause-proved c = held_is_outlined

pub returns-clause-unproved : goal.returns-clause-unproved
returns-clause-unproved c = silent_is_not
