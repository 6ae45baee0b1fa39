use Rattle.civl_circuits.proofs.Hashing.{signed_sum}
use Rattle.civl_circuits.proofs.sharing.sum_of.Goals as goal

pub returns-clause-ok : goal.returns-clause-ok
returns-clause-ok c = signed_sum _ c.ordered_three-first.ensures c.signed-low.ensures c.signed-middle.ensures c.signed-high.ensures c.in_ok-sum.ensures.ok c.signed.ensures c.signed-2.ensures
