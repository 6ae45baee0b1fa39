-- Part of the claim: docs/CLAIM.md.
-- Words are the fixed-size bit vectors of SMT-LIB (theory FixedSizeBitVectors). A word is the pair of its
-- width and its value, the number that the standard's bv2nat gives. Each operation is stated on numbers,
-- and the standard's name stands beside it: `w` is the width, and `a` and `b` are values below 2 ^ w.
use Rattle.std.specs.Prelude.{ℕ, zero, suc, ◌+◌, ◌-◌, ◌*◌, ◌/◌, ◌%◌, ◌^◌, ◌≤◌, ◌<◌, min, max, ℤ, pos, ◌-ℤ◌, Bool, ◌&&◌, nat_lt, nat_eq, if◌then◌else◌}
use Rattle.std.specs.Int.{bit_at}

-- 1 to 32 bits, and a number that they hold
pub record IsWord (width value : ℕ) : Type 0 where
  pub narrow : 1 ≤ width
  pub wide : width ≤ 32
  pub fits : value < 2 ^ width

-- bvadd
abbrev pub sum_at : ℕ → ℕ → ℕ → ℕ
sum_at w a b = (a + b) % 2 ^ w

-- bvsub, the sum of a and the negative of b
abbrev pub difference_at : ℕ → ℕ → ℕ → ℕ
difference_at w a b = (a + (2 ^ w - b)) % 2 ^ w

-- bvmul
abbrev pub product_at : ℕ → ℕ → ℕ → ℕ
product_at w a b = a * b % 2 ^ w

-- bvneg
abbrev pub negative_at : ℕ → ℕ → ℕ
negative_at w a = (2 ^ w - a) % 2 ^ w

-- bvudiv: rounded down, and all ones by 0
abbrev pub quotient_at : ℕ → ℕ → ℕ → ℕ
quotient_at w a b = if nat_eq b 0 then 2 ^ w - 1 else a / b

-- bvurem: the first operand by 0
abbrev pub remainder_at : ℕ → ℕ → ℕ → ℕ
remainder_at w a b = if nat_eq b 0 then a else a % b

-- the number of w bits whose bit j is f j, each 0 or 1
abbrev pub number_of_bits : ℕ → (ℕ → ℕ) → ℕ
number_of_bits zero f = 0
number_of_bits (suc w) f = number_of_bits w f + f w * 2 ^ w

-- bvand: a bit is 1 where both are
abbrev pub bitwise_and_at : ℕ → ℕ → ℕ → ℕ
bitwise_and_at w a b = number_of_bits w (λ j. min (bit_at a j) (bit_at b j))

-- bvor: a bit is 1 where one of them is
abbrev pub bitwise_or_at : ℕ → ℕ → ℕ → ℕ
bitwise_or_at w a b = number_of_bits w (λ j. max (bit_at a j) (bit_at b j))

-- bvxor: a bit is 1 where exactly one of them is
abbrev pub bitwise_xor_at : ℕ → ℕ → ℕ → ℕ
bitwise_xor_at w a b = number_of_bits w (λ j. (bit_at a j + bit_at b j) % 2)

-- bvnot: each bit turned
abbrev pub complement_at : ℕ → ℕ → ℕ
complement_at w a = 2 ^ w - 1 - a

-- bvshl, where an amount above the width moves as the width does: every bit out
abbrev pub left_shift_at : ℕ → ℕ → ℕ → ℕ
left_shift_at w a b = a * 2 ^ min b w % 2 ^ w

-- bvlshr, with the same amounts
abbrev pub right_shift_at : ℕ → ℕ → ℕ → ℕ
right_shift_at w a b = a / 2 ^ min b w

-- bvashr: where the top bit is 1, the complement is moved in place of the word
abbrev pub arithmetic_right_shift_at : ℕ → ℕ → ℕ → ℕ
arithmetic_right_shift_at w a b =
    if nat_lt a (2 ^ (w - 1)) then right_shift_at w a b else complement_at w (right_shift_at w (complement_at w a) b)

-- the number that a word is by two's complement, on which bvslt and bvsle are the usual order
abbrev pub signed_at : ℕ → ℕ → ℤ
signed_at w a = if nat_lt a (2 ^ (w - 1)) then pos a else pos a -ℤ pos (2 ^ w)

-- extract: the bits high down to low
abbrev pub slice_of : ℕ → ℕ → ℕ → ℕ
slice_of a high low = a / 2 ^ low % 2 ^ (high - low + 1)

-- concat: a above the k bits of b
abbrev pub concatenation_at : ℕ → ℕ → ℕ → ℕ
concatenation_at k a b = a * 2 ^ k + b

-- whether two words are of one width and the same
abbrev pub same_word : ℕ × ℕ → ℕ × ℕ → Bool
same_word a b = nat_eq a.0 b.0 && nat_eq a.1 b.1
