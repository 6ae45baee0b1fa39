-- Where the shifts, slices and joins move each bit.
use Rattle.std.specs.Prelude.{min, nat_lt, if◌then◌else◌}
use Rattle.std.specs.Int.{bit_at}
use Rattle.std.proofs.Common.{◌≡◌, ◌∙◌, ℕ, ◌+◌, ◌-◌, ◌*◌, ◌/◌, ◌%◌, ◌^◌, ◌<◌, ◌≤◌, sym, ap, subst, arith, inl, inr}
use Rattle.std.proofs.Math.Nat.{min-eq_left, min-eq_right, mul-mod_left, div-eq_of_lt, div-one, mod-eq_of_lt, mul_assoc}
use Rattle.std.proofs.lemmas.Bool.{cases_lt, cond-true, cond-false, lt-ltb, le-ltb}
use Rattle.std.proofs.lemmas.Nat.{pow-add, shr_below, shr_split}
use Rattle.std.proofs.lemmas.Nat.Bits.{bit_at-lt, bit_at_above, bit_at_cat_low, bit_at_cat_high}
use Rattle.civl_bits.specs.Word.{complement_at, left_shift_at, right_shift_at, arithmetic_right_shift_at, slice_of, concatenation_at}
use Rattle.civl_bits.proofs.Bits.{bit_at-mod, bit_at-shr, bit_at-shl_low, bit_at-shl_high, bit_at-complement, top_bit_clear, top_bit_set}
use Rattle.civl_bits.proofs.Powers.{below_wider}

-- a number below a place is chosen as such
chosen_low : (j b x y : ℕ) → j < b → x ≡ (if nat_lt j b then x else y)
chosen_low j b x y l = sym (cond-true (nat_lt j b) x y (lt-ltb j b l))

chosen_high : (j b x y : ℕ) → b ≤ j → y ≡ (if nat_lt j b then x else y)
chosen_high j b x y l = sym (cond-false (nat_lt j b) x y (le-ltb j b l))

pub bit_at-left_shift : (w a b j : ℕ) → j < w → bit_at (left_shift_at w a b) j ≡ (if nat_lt j b then 0 else bit_at a (j - b))
bit_at-left_shift w a b j l =
    bit_at-mod (a * 2 ^ min b w) w j l ∙ elim (cases_lt j b) [
      | inl low ↦ bit_at-shl_low a (min b w) j (omega arith) ∙ chosen_low j b 0 (bit_at a (j - b)) low
      | inr high ↦
          let whole : min b w ≡ b = min-eq_left (omega arith) in
          ap (λ k. bit_at (a * 2 ^ k) j) whole ∙ bit_at-shl_high a b j high ∙ chosen_high j b 0 (bit_at a (j - b)) high
    ]

pub bit_at-right_shift : (w a b j : ℕ) → a < 2 ^ w → bit_at (right_shift_at w a b) j ≡ bit_at a (j + b)
bit_at-right_shift w a b j h =
    bit_at-shr a (min b w) j ∙ elim (cases_lt w b) [
      | inl long ↦ bit_at_above a w (min b w + j) h (omega arith) ∙ sym (bit_at_above a w (j + b) h (omega arith))
      | inr short ↦ ap (bit_at a) (omega arith)
    ]

pub right_shift-lt : (w a b : ℕ) → a < 2 ^ w → right_shift_at w a b < 2 ^ w
right_shift-lt w a b h = shr_below a w (min b w) (below_wider a w (w + min b w) h (omega arith))

pub complement-lt : (w a : ℕ) → a < 2 ^ w → complement_at w a < 2 ^ w
complement-lt w a h = omega arith

pub bit_at-arithmetic_right_shift : (w a b j : ℕ) → a < 2 ^ w → j < w → bit_at (arithmetic_right_shift_at w a b) j ≡ bit_at a (min (j + b) (w - 1))
bit_at-arithmetic_right_shift w a b j h l =
    elim (cases_lt a (2 ^ (w - 1))) [
      | inl clear ↦
          ap (λ n. bit_at n j) (cond-true (nat_lt a (2 ^ (w - 1))) (right_shift_at w a b) _ (lt-ltb a (2 ^ (w - 1)) clear)) ∙ bit_at-right_shift w a b j h ∙ elim (cases_lt (j + b) w) [
            | inl inside ↦ ap (bit_at a) (omega arith)
            | inr outside ↦ bit_at_above a w (j + b) h outside ∙ sym (top_bit_clear w a clear) ∙ ap (bit_at a) (omega arith)
          ]
      | inr set ↦
          let turned : complement_at w a < 2 ^ w = complement-lt w a h in
          ap (λ n. bit_at n j) (cond-false (nat_lt a (2 ^ (w - 1))) _ (complement_at w (right_shift_at w (complement_at w a) b)) (le-ltb a (2 ^ (w - 1)) set))
          ∙ bit_at-complement w (right_shift_at w (complement_at w a) b) j (right_shift-lt w (complement_at w a) b turned) l
          ∙ ap (λ n. 1 - n) (bit_at-right_shift w (complement_at w a) b j turned)
          ∙ elim (cases_lt (j + b) w) [
            | inl inside ↦
                ap (λ n. 1 - n) (bit_at-complement w a (j + b) h inside) ∙ twice_turned (bit_at a (j + b)) (bit_at-lt a (j + b)) ∙ ap (bit_at a) (omega arith)
            | inr outside ↦
                ap (λ n. 1 - n) (bit_at_above (complement_at w a) w (j + b) turned outside) ∙ sym (top_bit_set w a (omega arith) h set) ∙ ap (bit_at a) (omega arith)
          ]
    ]
  where
    twice_turned : (b : ℕ) → b < 2 → 1 - (1 - b) ≡ b
    twice_turned b h = omega arith

pub left_shift-multiplies : (w a b : ℕ) → left_shift_at w a b ≡ a * 2 ^ b % 2 ^ w
left_shift-multiplies w a b =
    elim (cases_lt w b) [
      | inl long ↦
          ap (λ k. a * 2 ^ k % 2 ^ w) (min-eq_right {n = w} {m = b} (omega arith)) ∙ mul-mod_left a (2 ^ w) ∙ sym (none_left w a b (b - w) (omega arith))
      | inr short ↦ ap (λ k. a * 2 ^ k % 2 ^ w) (min-eq_left short)
    ]
  where
    none_left : (w a b k : ℕ) → b ≡ k + w → a * 2 ^ b % 2 ^ w ≡ 0
    none_left w a b k e =
        ap (λ n. a * 2 ^ n % 2 ^ w) e ∙ ap (λ n. a * n % 2 ^ w) (pow-add 2 k w) ∙ ap (λ n. n % 2 ^ w) (sym (mul_assoc a (2 ^ k) (2 ^ w))) ∙ mul-mod_left (a * 2 ^ k) (2 ^ w)

pub right_shift-divides : (w a b : ℕ) → a < 2 ^ w → right_shift_at w a b ≡ a / 2 ^ b
right_shift-divides w a b h =
    elim (cases_lt w b) [
      | inl long ↦
          ap (λ k. a / 2 ^ k) (min-eq_right {n = w} {m = b} (omega arith)) ∙ div-eq_of_lt h ∙ sym (div-eq_of_lt (below_wider a w b h (omega arith)))
      | inr short ↦ ap (λ k. a / 2 ^ k) (min-eq_left short)
    ]

pub bit_at-slice : (a high low j : ℕ) → j ≤ high - low → bit_at (slice_of a high low) j ≡ bit_at a (low + j)
bit_at-slice a high low j l = bit_at-mod (a / 2 ^ low) (high - low + 1) j (omega arith) ∙ bit_at-shr a low j

pub bit_at-concatenation : (k a b j : ℕ) → b < 2 ^ k → bit_at (concatenation_at k a b) j ≡ (if nat_lt j k then bit_at b j else bit_at a (j - k))
bit_at-concatenation k a b j h =
    elim (cases_lt j k) [
      | inl low ↦ bit_at_cat_low a k b j low ∙ chosen_low j k (bit_at b j) (bit_at a (j - k)) low
      | inr high ↦ bit_at_cat_high a k b j h high ∙ chosen_high j k (bit_at b j) (bit_at a (j - k)) high
    ]

pub slices-concatenate : (w k a : ℕ) → 1 ≤ k → k < w → a < 2 ^ w → concatenation_at k (slice_of a (w - 1) k) (slice_of a (k - 1) 0) ≡ a
slices-concatenate w k a n l h =
    let P : ℕ → Type 0 = λ i. a < 2 ^ i in
    let fits : a < 2 ^ (w - 1 - k + 1 + k) = subst P (omega arith) h in
    let high : slice_of a (w - 1) k ≡ a / 2 ^ k = mod-eq_of_lt (shr_below a (w - 1 - k + 1) k fits) in
    let low : slice_of a (k - 1) 0 ≡ a % 2 ^ k = ap (λ m. m % 2 ^ (k - 1 - 0 + 1)) (div-one a) ∙ ap (λ i. a % 2 ^ i) (omega arith) in
    ap (λ m. concatenation_at k m (slice_of a (k - 1) 0)) high ∙ ap (concatenation_at k (a / 2 ^ k)) low ∙ shr_split a k
