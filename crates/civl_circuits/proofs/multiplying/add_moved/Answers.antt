use Rattle.civl_circuits.specs.declared.shifting.Direction.TheVariants as direction
use Rattle.civl_circuits.proofs.Words.{one_later, zero_below}
use Rattle.civl_circuits.proofs.Moves.{IsBelow-moved}
use Rattle.civl_circuits.proofs.Products.{added}
use Rattle.civl_circuits.proofs.multiplying.add_moved.Goals as goal

pub mask-requires-clause-a : goal.mask-requires-clause-a
mask-requires-clause-a c = rw (c.as_slice.ensures.value, c.in_ok-away.ensures) (IsBelow-moved _ direction.Up _ _ _ (zero_below c.requires.one c.negate-zero.ensures) c.requires.a)

pub returns-clause-ok : goal.returns-clause-ok
returns-clause-ok c =
    added _ _ _ _ _ _ _ (rw c.as_slice.ensures.value at c.in_ok-part.ensures.ok) (rw c.as_slice-2.ensures.value at c.in_ok-word.ensures.ok) c.in_ok-away.ensures c.requires.one c.negate-zero.ensures c.requires.within c.requires.size

pub add-requires-clause-one : goal.add-requires-clause-one
add-requires-clause-one c = one_later c.in_ok-part.ensures.extends c.requires.one
