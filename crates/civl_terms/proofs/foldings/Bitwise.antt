-- The bitwise operations at 0, at all ones, and on one word; and the arithmetic shift.
use Rattle.std.specs.Prelude.{min, max}
use Rattle.std.specs.Int.{bit_at}
use Rattle.std.proofs.Common.{◌≡◌, ◌∙◌, ℕ, ◌+◌, ◌-◌, ◌%◌, ◌^◌, ◌<◌, sym, ap, arith}
use Rattle.std.proofs.lemmas.Nat.{pow_pos}
use Rattle.std.proofs.lemmas.Nat.Bits.{bit_at-zero, bit_at-lt, same_from_bits_below}
use Rattle.civl_bits.specs.Word.{bitwise_and_at, bitwise_or_at, bitwise_xor_at, complement_at, arithmetic_right_shift_at}
use Rattle.civl_bits.proofs.Bits.{bit_at-bitwise_and, bit_at-bitwise_or, bit_at-bitwise_xor, bit_at-complement, bitwise_and-lt, bitwise_or-lt, bitwise_xor-lt}
use Rattle.civl_bits.proofs.Moves.{bit_at-arithmetic_right_shift}
use Rattle.civl_bits.proofs.Widths.{arithmetic_right_shift-lt}

no_bit : (n j : ℕ) → n ≡ 0 → bit_at n j ≡ 0
no_bit n j e = ap (λ k. bit_at k j) e ∙ bit_at-zero j

pub each_bit : (w n j : ℕ) → n ≡ 2 ^ w - 1 → j < w → bit_at n j ≡ 1
each_bit w n j e l =
    let whole : n ≡ complement_at w 0 = omega (arith, e) in
    ap (λ k. bit_at k j) whole ∙ bit_at-complement w 0 j (pow_pos w) l ∙ omega (arith, bit_at-zero j)

and_is : (w m n r : ℕ) → r < 2 ^ w → ((j : ℕ) → j < w → min (bit_at m j) (bit_at n j) ≡ bit_at r j) → bitwise_and_at w m n ≡ r
and_is w m n r h f = same_from_bits_below w (bitwise_and_at w m n) r (bitwise_and-lt w m n) h (λ j l. bit_at-bitwise_and w m n j l ∙ f j l)

or_is : (w m n r : ℕ) → r < 2 ^ w → ((j : ℕ) → j < w → max (bit_at m j) (bit_at n j) ≡ bit_at r j) → bitwise_or_at w m n ≡ r
or_is w m n r h f = same_from_bits_below w (bitwise_or_at w m n) r (bitwise_or-lt w m n) h (λ j l. bit_at-bitwise_or w m n j l ∙ f j l)

xor_is : (w m n r : ℕ) → r < 2 ^ w → ((j : ℕ) → j < w → (bit_at m j + bit_at n j) % 2 ≡ bit_at r j) → bitwise_xor_at w m n ≡ r
xor_is w m n r h f = same_from_bits_below w (bitwise_xor_at w m n) r (bitwise_xor-lt w m n) h (λ j l. bit_at-bitwise_xor w m n j l ∙ f j l)

sar_is : (w m n r : ℕ) → m < 2 ^ w → r < 2 ^ w → ((j : ℕ) → j < w → bit_at m (min (j + n) (w - 1)) ≡ bit_at r j) → arithmetic_right_shift_at w m n ≡ r
sar_is w m n r h k f =
    same_from_bits_below w (arithmetic_right_shift_at w m n) r (arithmetic_right_shift-lt w m n h) k (λ j l. bit_at-arithmetic_right_shift w m n j h l ∙ f j l)

pub zero_and : (w m n : ℕ) → m ≡ 0 → m < 2 ^ w → bitwise_and_at w m n ≡ m
zero_and w m n e h = and_is w m n m h (λ j l. omega (arith, no_bit m j e))

pub and_zero : (w m n : ℕ) → n ≡ 0 → n < 2 ^ w → bitwise_and_at w m n ≡ n
and_zero w m n e h = and_is w m n n h (λ j l. omega (arith, no_bit n j e))

pub ones_and : (w m n : ℕ) → m ≡ 2 ^ w - 1 → n < 2 ^ w → bitwise_and_at w m n ≡ n
ones_and w m n e h = and_is w m n n h (λ j l. omega (arith, each_bit w m j e l, bit_at-lt n j))

pub and_ones : (w m n : ℕ) → n ≡ 2 ^ w - 1 → m < 2 ^ w → bitwise_and_at w m n ≡ m
and_ones w m n e h = and_is w m n m h (λ j l. omega (arith, each_bit w n j e l, bit_at-lt m j))

pub and_itself : (w m : ℕ) → m < 2 ^ w → bitwise_and_at w m m ≡ m
and_itself w m h = and_is w m m m h (λ j l. omega arith)

pub zero_or : (w m n : ℕ) → m ≡ 0 → n < 2 ^ w → bitwise_or_at w m n ≡ n
zero_or w m n e h = or_is w m n n h (λ j l. omega (arith, no_bit m j e))

pub or_zero : (w m n : ℕ) → n ≡ 0 → m < 2 ^ w → bitwise_or_at w m n ≡ m
or_zero w m n e h = or_is w m n m h (λ j l. omega (arith, no_bit n j e))

pub ones_or : (w m n : ℕ) → m ≡ 2 ^ w - 1 → m < 2 ^ w → bitwise_or_at w m n ≡ m
ones_or w m n e h = or_is w m n m h (λ j l. omega (arith, each_bit w m j e l, bit_at-lt n j))

pub or_ones : (w m n : ℕ) → n ≡ 2 ^ w - 1 → n < 2 ^ w → bitwise_or_at w m n ≡ n
or_ones w m n e h = or_is w m n n h (λ j l. omega (arith, each_bit w n j e l, bit_at-lt m j))

pub or_itself : (w m : ℕ) → m < 2 ^ w → bitwise_or_at w m m ≡ m
or_itself w m h = or_is w m m m h (λ j l. omega arith)

pub zero_xor : (w m n : ℕ) → m ≡ 0 → n < 2 ^ w → bitwise_xor_at w m n ≡ n
zero_xor w m n e h = xor_is w m n n h (λ j l. omega (arith, no_bit m j e, bit_at-lt n j))

pub xor_zero : (w m n : ℕ) → n ≡ 0 → m < 2 ^ w → bitwise_xor_at w m n ≡ m
xor_zero w m n e h = xor_is w m n m h (λ j l. omega (arith, no_bit n j e, bit_at-lt m j))

pub xor_itself : (w m : ℕ) → bitwise_xor_at w m m ≡ 0
xor_itself w m = xor_is w m m 0 (pow_pos w) (λ j l. omega (arith, bit_at-zero j))

pub zero_sar : (w m n : ℕ) → m ≡ 0 → m < 2 ^ w → arithmetic_right_shift_at w m n ≡ m
zero_sar w m n e h = sar_is w m n m h h (λ j l. no_bit m (min (j + n) (w - 1)) e ∙ sym (no_bit m j e))

pub ones_sar : (w m n : ℕ) → m ≡ 2 ^ w - 1 → m < 2 ^ w → arithmetic_right_shift_at w m n ≡ m
ones_sar w m n e h = sar_is w m n m h h (λ j l. each_bit w m (min (j + n) (w - 1)) e (omega arith) ∙ sym (each_bit w m j e l))

pub sar_zero : (w m n : ℕ) → n ≡ 0 → m < 2 ^ w → arithmetic_right_shift_at w m n ≡ m
sar_zero w m n e h = sar_is w m n m h h (λ j l. ap (bit_at m) (omega (arith, e, l)))

pub sar_narrow : (w m n : ℕ) → w ≡ 1 → m < 2 ^ w → arithmetic_right_shift_at w m n ≡ m
sar_narrow w m n e h = sar_is w m n m h h (λ j l. ap (bit_at m) (omega (arith, e, l)))
