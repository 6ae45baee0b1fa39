use Rattle.civl_circuits.proofs.Words.{IsBelow-flipped}
use Rattle.civl_circuits.proofs.Sums.{sum_cut, with_complement}
use Rattle.civl_circuits.proofs.adding.subtract.Goals as goal

pub add_with_carry-requires-clause-b : goal.add_with_carry-requires-clause-b
add_with_carry-requires-clause-b c = rw (c.as_slice.ensures.value, c.in_ok-flipped.ensures.word) (IsBelow-flipped _ _ c.requires.b)

pub returns-clause-ok : goal.returns-clause-ok
returns-clause-ok c =
    sum_cut _ _ _ _ (rw c.as_slice.ensures.value at c.in_ok-difference.ensures.ok) c.truncate.ensures.items
    (λ v h. with_complement v _ _ _ _ c.requires.one c.in_ok-difference.ensures.extends c.requires.size c.in_ok-flipped.ensures.value h)
