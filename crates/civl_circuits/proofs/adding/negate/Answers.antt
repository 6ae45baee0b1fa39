use Rattle.civl_circuits.proofs.Sums.{negative_made}
use Rattle.civl_circuits.proofs.adding.negate.Goals as goal

pub returns-clause-ok : goal.returns-clause-ok
returns-clause-ok c =
    negative_made _ _ _ _ (rw c.as_slice.ensures.value at c.in_ok-negative.ensures.ok) c.in_ok-zeros.ensures c.negate.ensures c.requires.one
