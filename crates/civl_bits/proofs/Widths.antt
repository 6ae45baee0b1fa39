-- The results of the operations fit their widths.
use Rattle.std.specs.Prelude.{min, nat_eq}
use Rattle.std.proofs.Common.{ℕ, ◌+◌, ◌-◌, ◌*◌, ◌/◌, ◌%◌, ◌^◌, ◌<◌, arith}
use Rattle.std.proofs.Math.Nat.{div-le_self, mod-le}
use Rattle.std.proofs.lemmas.Bool.{cond_both}
use Rattle.std.proofs.lemmas.Nat.{pow_pos, pow-add, mod_below, mul-add-lt}
use Rattle.civl_bits.specs.Word.{quotient_at, remainder_at, arithmetic_right_shift_at, right_shift_at, complement_at, concatenation_at}
use Rattle.civl_bits.specs.WordLaws.{ResultsFit}
use Rattle.civl_bits.proofs.Bits.{bitwise_and-lt, bitwise_or-lt, bitwise_xor-lt}
use Rattle.civl_bits.proofs.Moves.{right_shift-lt, complement-lt}

pub arithmetic_right_shift-lt : (w a b : ℕ) → a < 2 ^ w → arithmetic_right_shift_at w a b < 2 ^ w
arithmetic_right_shift-lt w a b h =
    cond_both _ _ _ (λ n. n < 2 ^ w) (λ _. right_shift-lt w a b h) (λ _. complement-lt w (right_shift_at w (complement_at w a) b) (right_shift-lt w (complement_at w a) b (complement-lt w a h)))

pub quotient-lt : (w a b : ℕ) → a < 2 ^ w → quotient_at w a b < 2 ^ w
quotient-lt w a b h =
    let ones : 2 ^ w - 1 < 2 ^ w = omega (arith, pow_pos w) in
    let smaller : a / b < 2 ^ w = omega (arith, div-le_self a b) in
    cond_both (nat_eq b 0) (2 ^ w - 1) (a / b) (λ n. n < 2 ^ w) (λ _. ones) (λ _. smaller)

pub remainder-lt : (w a b : ℕ) → a < 2 ^ w → remainder_at w a b < 2 ^ w
remainder-lt w a b h =
    let smaller : a % b < 2 ^ w = omega (arith, mod-le a b) in
    cond_both (nat_eq b 0) a (a % b) (λ n. n < 2 ^ w) (λ _. h) (λ _. smaller)

pub results_fit : (w a b : ℕ) → a < 2 ^ w → b < 2 ^ w → ResultsFit w a b
results_fit w a b h l = record {
  sum = mod_below (a + b) (2 ^ w) (pow_pos w);
  difference = mod_below (a + (2 ^ w - b)) (2 ^ w) (pow_pos w);
  product = mod_below (a * b) (2 ^ w) (pow_pos w);
  negative = mod_below (2 ^ w - a) (2 ^ w) (pow_pos w);
  quotient = quotient-lt w a b h;
  remainder = remainder-lt w a b h;
  bitwise_and = bitwise_and-lt w a b;
  bitwise_or = bitwise_or-lt w a b;
  bitwise_xor = bitwise_xor-lt w a b;
  complement = complement-lt w a h;
  left_shift = mod_below (a * 2 ^ min b w) (2 ^ w) (pow_pos w);
  right_shift = right_shift-lt w a b h;
  arithmetic_right_shift = arithmetic_right_shift-lt w a b h;
}

pub concatenation-lt : (w k a b : ℕ) → a < 2 ^ w → b < 2 ^ k → concatenation_at k a b < 2 ^ (w + k)
concatenation-lt w k a b h l =
    let both : a * 2 ^ k + b < 2 ^ k * 2 ^ w = mul-add-lt a (2 ^ k) b (2 ^ w) h l in
    rw (pow-add 2 w k) (omega arith)
