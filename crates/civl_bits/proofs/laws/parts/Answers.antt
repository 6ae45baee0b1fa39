use Rattle.std.proofs.lemmas.Nat.Bits.{bit_at_above}
use Rattle.civl_bits.proofs.Moves.{bit_at-slice, bit_at-concatenation, slices-concatenate}
use Rattle.civl_bits.proofs.laws.parts.Goals as goal

pub returns-clause-slice : goal.returns-clause-slice
returns-clause-slice c = bit_at-slice

pub returns-clause-join : goal.returns-clause-join
returns-clause-join c = bit_at-concatenation

pub returns-clause-widen : goal.returns-clause-widen
returns-clause-widen c = λ w a j h l. bit_at_above a w j h l

pub returns-clause-again : goal.returns-clause-again
returns-clause-again c = slices-concatenate
