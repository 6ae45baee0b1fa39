use Rattle.civl_bits.proofs.Sums.{difference-adds_negative}
use Rattle.civl_bits.proofs.laws.ring.Goals as goal

pub returns-clause-adds : goal.returns-clause-adds
returns-clause-adds c = difference-adds_negative
