use Rattle.civl_circuits.proofs.Orders.{signed_bit}
use Rattle.civl_circuits.proofs.comparing.signed_less.Goals as goal

pub returns-clause-ok : goal.returns-clause-ok
returns-clause-ok c =
    signed_bit _ _ _ _ (rw (c.as_slice.ensures.value, c.as_slice-2.ensures.value) at c.in_ok-below.ensures.ok) c.in_ok-first.ensures c.in_ok-second.ensures c.requires.narrow c.requires.size
