-- Laws of the operations on words, for every width `w`, number of bits `k`, values `a` and `b` and place of
-- a bit `j`, of which 0 is the lowest.
use Rattle.std.specs.Prelude.{◌≡◌, ℕ, ◌+◌, ◌-◌, ◌*◌, ◌/◌, ◌%◌, ◌^◌, ◌≤◌, ◌<◌, min, max, pos, neg_ℤ, ◌≤ℤ◌, ◌<ℤ◌, ◌+ℤ◌, ◌⊎◌, nat_lt, nat_eq, int_lt, if◌then◌else◌}
use Rattle.std.specs.Int.{bit_at}
use Rattle.civl_bits.specs.Word.{sum_at, difference_at, product_at, negative_at, quotient_at, remainder_at, bitwise_and_at, bitwise_or_at, bitwise_xor_at, complement_at, left_shift_at, right_shift_at, arithmetic_right_shift_at, signed_at, slice_of, concatenation_at}

-- values of w bits with the same bits are the same
abbrev pub BitsDetermine : Type 0
BitsDetermine = (w a b : ℕ) → a < 2 ^ w → b < 2 ^ w → ((j : ℕ) → j < w → bit_at a j ≡ bit_at b j) → a ≡ b

-- the bitwise operations, bit by bit
abbrev pub AndActsOnBits : Type 0
AndActsOnBits = (w a b j : ℕ) → j < w → bit_at (bitwise_and_at w a b) j ≡ min (bit_at a j) (bit_at b j)

abbrev pub OrActsOnBits : Type 0
OrActsOnBits = (w a b j : ℕ) → j < w → bit_at (bitwise_or_at w a b) j ≡ max (bit_at a j) (bit_at b j)

abbrev pub XorActsOnBits : Type 0
XorActsOnBits = (w a b j : ℕ) → j < w → bit_at (bitwise_xor_at w a b) j ≡ (bit_at a j + bit_at b j) % 2

abbrev pub ComplementActsOnBits : Type 0
ComplementActsOnBits = (w a j : ℕ) → a < 2 ^ w → j < w → bit_at (complement_at w a) j ≡ 1 - bit_at a j

-- the shifts, bit by bit
abbrev pub LeftShiftMovesBits : Type 0
LeftShiftMovesBits = (w a b j : ℕ) → j < w → bit_at (left_shift_at w a b) j ≡ (if nat_lt j b then 0 else bit_at a (j - b))

abbrev pub RightShiftMovesBits : Type 0
RightShiftMovesBits = (w a b j : ℕ) → a < 2 ^ w → bit_at (right_shift_at w a b) j ≡ bit_at a (j + b)

abbrev pub ArithmeticRightShiftMovesBits : Type 0
ArithmeticRightShiftMovesBits = (w a b j : ℕ) → a < 2 ^ w → j < w → bit_at (arithmetic_right_shift_at w a b) j ≡ bit_at a (min (j + b) (w - 1))

-- the standard's formulas for the shifts, in which an amount has no bound
abbrev pub LeftShiftMultiplies : Type 0
LeftShiftMultiplies = (w a b : ℕ) → left_shift_at w a b ≡ a * 2 ^ b % 2 ^ w

abbrev pub RightShiftDivides : Type 0
RightShiftDivides = (w a b : ℕ) → a < 2 ^ w → right_shift_at w a b ≡ a / 2 ^ b

-- the parts of words, bit by bit
abbrev pub SliceTakesBits : Type 0
SliceTakesBits = (a high low j : ℕ) → j ≤ high - low → bit_at (slice_of a high low) j ≡ bit_at a (low + j)

abbrev pub ConcatenationPlacesBits : Type 0
ConcatenationPlacesBits = (k a b j : ℕ) → b < 2 ^ k → bit_at (concatenation_at k a b) j ≡ (if nat_lt j k then bit_at b j else bit_at a (j - k))

abbrev pub WideningAddsZeros : Type 0
WideningAddsZeros = (w a j : ℕ) → a < 2 ^ w → w ≤ j → bit_at a j ≡ 0

-- a word is its high part above its low part
abbrev pub SlicesConcatenate : Type 0
SlicesConcatenate = (w k a : ℕ) → 1 ≤ k → k < w → a < 2 ^ w → concatenation_at k (slice_of a (w - 1) k) (slice_of a (k - 1) 0) ≡ a

-- the ring of numbers modulo 2 ^ w
abbrev pub SumUndoesDifference : Type 0
SumUndoesDifference = (w a b : ℕ) → a < 2 ^ w → b < 2 ^ w → sum_at w (difference_at w a b) b ≡ a

abbrev pub NegativeIsInverse : Type 0
NegativeIsInverse = (w a : ℕ) → a < 2 ^ w → sum_at w a (negative_at w a) ≡ 0

abbrev pub DifferenceAddsNegative : Type 0
DifferenceAddsNegative = (w a b : ℕ) → a < 2 ^ w → b < 2 ^ w → difference_at w a b ≡ sum_at w a (negative_at w b)

abbrev pub NegativeIsComplementAndOne : Type 0
NegativeIsComplementAndOne = (w a : ℕ) → a < 2 ^ w → negative_at w a ≡ sum_at w (complement_at w a) 1

-- division with remainder
abbrev pub QuotientAndRemainder : Type 0
QuotientAndRemainder = (w a b : ℕ) → 0 < b → (quotient_at w a b * b + remainder_at w a b ≡ a) × (remainder_at w a b < b)

-- two's complement: the signed numbers of w bits, each equal to the word's value modulo 2 ^ w
abbrev pub SignedNumbers : Type 0
SignedNumbers =
    (w a : ℕ) → 1 ≤ w → a < 2 ^ w → (neg_ℤ (pos (2 ^ (w - 1))) ≤ℤ signed_at w a) × (signed_at w a <ℤ pos (2 ^ (w - 1))) × ((signed_at w a ≡ pos a) ⊎ (signed_at w a +ℤ pos (2 ^ w) ≡ pos a))

-- the standard's definition of bvslt: by the top bits where they differ, and else by the values
abbrev pub SignedOrderByTopBits : Type 0
SignedOrderByTopBits =
    (w a b : ℕ) → 1 ≤ w → a < 2 ^ w → b < 2 ^ w → int_lt (signed_at w a) (signed_at w b) ≡ (if nat_eq (bit_at a (w - 1)) (bit_at b (w - 1)) then nat_lt a b else nat_lt (bit_at b (w - 1)) (bit_at a (w - 1)))

-- the result of each operation on values of w bits has w bits
pub record ResultsFit (w a b : ℕ) : Type 0 where
  pub sum : sum_at w a b < 2 ^ w
  pub difference : difference_at w a b < 2 ^ w
  pub product : product_at w a b < 2 ^ w
  pub negative : negative_at w a < 2 ^ w
  pub quotient : quotient_at w a b < 2 ^ w
  pub remainder : remainder_at w a b < 2 ^ w
  pub bitwise_and : bitwise_and_at w a b < 2 ^ w
  pub bitwise_or : bitwise_or_at w a b < 2 ^ w
  pub bitwise_xor : bitwise_xor_at w a b < 2 ^ w
  pub complement : complement_at w a < 2 ^ w
  pub left_shift : left_shift_at w a b < 2 ^ w
  pub right_shift : right_shift_at w a b < 2 ^ w
  pub arithmetic_right_shift : arithmetic_right_shift_at w a b < 2 ^ w

abbrev pub OperationsStayInWidth : Type 0
OperationsStayInWidth = (w a b : ℕ) → a < 2 ^ w → b < 2 ^ w → ResultsFit w a b

abbrev pub SliceFits : Type 0
SliceFits = (a high low : ℕ) → slice_of a high low < 2 ^ (high - low + 1)

abbrev pub ConcatenationFits : Type 0
ConcatenationFits = (w k a b : ℕ) → a < 2 ^ w → b < 2 ^ k → concatenation_at k a b < 2 ^ (w + k)
