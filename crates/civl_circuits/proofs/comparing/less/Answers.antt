use Rattle.civl_circuits.proofs.Words.{IsBelow-flipped}
use Rattle.civl_circuits.proofs.Orders.{less_bit}
use Rattle.civl_circuits.proofs.comparing.less.Goals as goal

pub add_with_carry-requires-clause-b : goal.add_with_carry-requires-clause-b
add_with_carry-requires-clause-b c = rw (c.as_slice.ensures.value, c.in_ok-flipped.ensures.word) (IsBelow-flipped _ _ c.requires.b)

pub returns-clause-ok : goal.returns-clause-ok
returns-clause-ok c =
    less_bit _ _ _ _ _ _ (rw c.as_slice.ensures.value at c.in_ok-sum.ensures.ok) c.in_ok-flipped.ensures.value c.requires.one c.requires.size c.index-carry.ensures c.negate.ensures
