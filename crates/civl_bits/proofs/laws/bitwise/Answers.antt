use Rattle.std.proofs.lemmas.Nat.Bits.{same_from_bits_below}
use Rattle.civl_bits.proofs.Bits.{bit_at-bitwise_and, bit_at-bitwise_or, bit_at-bitwise_xor, bit_at-complement}
use Rattle.civl_bits.proofs.laws.bitwise.Goals as goal

pub returns-clause-and : goal.returns-clause-and
returns-clause-and c = bit_at-bitwise_and

pub returns-clause-or : goal.returns-clause-or
returns-clause-or c = bit_at-bitwise_or

pub returns-clause-xor : goal.returns-clause-xor
returns-clause-xor c = bit_at-bitwise_xor

pub returns-clause-complement : goal.returns-clause-complement
returns-clause-complement c = bit_at-complement

pub returns-clause-determined : goal.returns-clause-determined
returns-clause-determined c = same_from_bits_below
