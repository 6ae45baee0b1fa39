use Rattle.civl_circuits.proofs.Hashing.{hashed_later}
use Rattle.civl_circuits.proofs.circuit.Circuit.sum.Goals as goal

pub invariant_of-self-2 : goal.invariant_of-self-2
invariant_of-self-2 c = hashed_later _ _ c.self.invariant c.sum_of.ensures.extends c.sum_of.ensures.outputs
