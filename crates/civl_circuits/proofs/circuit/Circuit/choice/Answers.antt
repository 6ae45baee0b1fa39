use Rattle.civl_circuits.proofs.Hashing.{hashed_later}
use Rattle.civl_circuits.proofs.circuit.Circuit.choice.Goals as goal

pub invariant_of-self-2 : goal.invariant_of-self-2
invariant_of-self-2 c = hashed_later _ _ c.self.invariant c.choice_of.ensures.extends c.choice_of.ensures.outputs
