-- Numbers with digits, and words as numbers.
use Rattle.std.proofs.Common.{◌≡◌, ℕ, suc, ◌+◌, ◌*◌, ◌^◌, ◌<◌, ◌≤◌, Bool, true, false, refl, arith}
use Rattle.std.specs.Prelude.{nat_eq, nat_lt, if◌then◌else◌}
use Rattle.std.proofs.Math.Nat.{mul-le-mul_left, mul-suc, pow-le-pow_right}
use Rattle.std.proofs.lemmas.Bool.{false≢true, ltb-true}
use Rattle.civl_bits.specs.declared.value.Value.{Value}
use Rattle.civl_bits.specs.declared.value.Value.TheVariants as value
use Rattle.civl_tree.specs.declared.expr.Sort.{Sort}
use Rattle.civl_tree.specs.declared.expr.Two.TheVariants.{Lt}
use Rattle.civl_firing.specs.values.Operators.{nothing, two_value}
use Rattle.civl_firing.specs.values.Values.{is_true, HasSort}
use Rattle.civl_reduction.specs.staged.Measures.{number_of, word_base}

-- a smaller first digit
pub digits : (k l m x y : ℕ) → l < m → x < k → k * l + x < k * m + y
digits k l m x y h s =
    let more : suc l ≤ m = omega (arith, h) in
    let times = mul-le-mul_left k more in
    let one = mul-suc k l in
    omega (arith, times, one, s)

-- less as a word is less as a number
pub word_falls : (v w : Value) → is_true (two_value Lt v w) ≡ true → number_of v < number_of w
word_falls (value.Word a) (value.Word b) e = by_width (nat_eq a.0 b.0) e
  where
    by_width : (same : Bool) → is_true (if same then value.Bool (nat_lt a.1 b.1) else nothing) ≡ true → a.1 < b.1
    by_width true e = ltb-true a.1 b.1 e
    by_width false e = absurd (false≢true e)
word_falls (value.Word a) (value.Bool b) e = absurd (false≢true e)
word_falls (value.Word a) (value.Row b) e = absurd (false≢true e)
word_falls (value.Bool a) w e = absurd (false≢true e)
word_falls (value.Row a) w e = absurd (false≢true e)

-- a word is a small number
pub word_small : (v : Value) (s : Sort) → HasSort v s → number_of v < word_base
word_small (value.Word a) s h =
    let fits = h.0.fits in
    let wide = pow-le-pow_right {n = 2} (omega arith) h.0.wide in
    let whole : 2 ^ 32 ≡ word_base = refl in
    omega (arith, fits, wide, whole)
word_small (value.Bool a) s h = omega arith
word_small (value.Row a) s h = omega arith
