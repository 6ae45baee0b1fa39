use Rattle.std.proofs.Common.{arith, refl}
use Rattle.civl_circuits.proofs.Words.{bit_turned}
use Rattle.civl_circuits.proofs.literals.iff.Goals as goal

pub returns-clause-ok : goal.returns-clause-ok
returns-clause-ok c = bit_turned _ _ _ c.in_ok-differ.ensures.ok c.negate.ensures (omega arith) (λ v. refl)
