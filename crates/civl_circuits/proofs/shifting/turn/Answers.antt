use Rattle.civl_circuits.proofs.Words.{IsBelow-flipped}
use Rattle.civl_circuits.proofs.Moves.{turned_made}
use Rattle.civl_circuits.proofs.shifting.turn.Goals as goal

pub choose-requires-clause-a : goal.choose-requires-clause-a
choose-requires-clause-a c = rw (c.as_slice.ensures.value, c.in_ok-flipped.ensures.word) (IsBelow-flipped _ _ c.requires.a)

pub returns-clause-ok : goal.returns-clause-ok
returns-clause-ok c = turned_made _ _ _ (rw c.as_slice.ensures.value at c.in_ok-word.ensures.ok) c.in_ok-flipped.ensures.word c.in_ok-flipped.ensures.value
