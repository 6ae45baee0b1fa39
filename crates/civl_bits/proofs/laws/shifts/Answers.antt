use Rattle.civl_bits.proofs.Moves.{bit_at-left_shift, bit_at-right_shift, bit_at-arithmetic_right_shift, left_shift-multiplies, right_shift-divides}
use Rattle.civl_bits.proofs.laws.shifts.Goals as goal

pub returns-clause-left : goal.returns-clause-left
returns-clause-left c = bit_at-left_shift

pub returns-clause-right : goal.returns-clause-right
returns-clause-right c = bit_at-right_shift

pub returns-clause-arithmetic : goal.returns-clause-arithmetic
returns-clause-arithmetic c = bit_at-arithmetic_right_shift

pub returns-clause-multiplies : goal.returns-clause-multiplies
returns-clause-multiplies c = left_shift-multiplies

pub returns-clause-divides : goal.returns-clause-divides
returns-clause-divides c = right_shift-divides
