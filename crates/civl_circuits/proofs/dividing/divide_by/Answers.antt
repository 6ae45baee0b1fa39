use Rattle.std.proofs.Common.{arith}
use Rattle.civl_circuits.proofs.Words.{one_later}
use Rattle.civl_circuits.proofs.Divisions.{dividing_none, dividing_more}
use Rattle.civl_circuits.proofs.dividing.divide_by.Goals as goal

pub loop-at-init : goal.loop-at-init
loop-at-init c = rw (c.in_ok-remainder.ensures, c.new-quotient.ensures.items) (dividing_none _ _ _ _ _ c.requires.one c.negate.ensures)

pub divide_step-requires-clause-one : goal.divide_step-requires-clause-one
divide_step-requires-clause-one c = one_later c.loop-at.invariant.extends c.requires.one

pub loop-at-preserved : goal.loop-at-preserved
loop-at-preserved c =
    rw c.in_ok-insert.ensures.items
    (dividing_more _ _ _ _ _ _ _ _ _ (omega arith) c.loop-at.invariant c.requires.narrow c.requires.whole c.index-a-at.is (rw c.as_slice.ensures.value at c.in_ok-enough.ensures.enough) (rw c.as_slice.ensures.value at c.in_ok-enough.ensures.rest))
