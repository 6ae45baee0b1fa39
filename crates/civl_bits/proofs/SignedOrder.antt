-- The order by two's complement.
use Rattle.std.specs.Prelude.{nat_lt, nat_eq, int_lt, if◌then◌else◌}
use Rattle.std.specs.Int.{bit_at}
use Rattle.std.proofs.Common.{◌≡◌, ◌∙◌, ℕ, ◌-◌, ◌^◌, ◌<◌, ◌≤◌, Bool, true, false, pos, ◌-ℤ◌, sym, ap₂, arith, inl, inr}
use Rattle.std.proofs.lemmas.Bool.{cases_lt, cond-true, cond-false, lt-ltb, le-ltb}
use Rattle.std.proofs.lemmas.Int.{ints}
use Rattle.civl_bits.specs.Word.{signed_at}
use Rattle.civl_bits.proofs.Bits.{top_bit_clear, top_bit_set}

pub signed_at-clear : (w a : ℕ) → a < 2 ^ (w - 1) → signed_at w a ≡ pos a
signed_at-clear w a h = cond-true (nat_lt a (2 ^ (w - 1))) (pos a) (pos a -ℤ pos (2 ^ w)) (lt-ltb a (2 ^ (w - 1)) h)

pub signed_at-set : (w a : ℕ) → 2 ^ (w - 1) ≤ a → signed_at w a ≡ pos a -ℤ pos (2 ^ w)
signed_at-set w a h = cond-false (nat_lt a (2 ^ (w - 1))) (pos a) (pos a -ℤ pos (2 ^ w)) (le-ltb a (2 ^ (w - 1)) h)

pub above_negative : (a b p : ℕ) → b < p → int_lt (pos a) (pos b -ℤ pos p) ≡ false
above_negative a b p h = grind (arith, ints)

below_positive : (a b p : ℕ) → a < p → int_lt (pos a -ℤ pos p) (pos b) ≡ true
below_positive a b p h = grind (arith, ints)

both_negative : (a b p : ℕ) → a < p → b < p → int_lt (pos a -ℤ pos p) (pos b -ℤ pos p) ≡ nat_lt a b
both_negative a b p h l = grind (arith, ints)

-- the order by the top bits x and y, and else by the values
by_bits : ℕ → ℕ → ℕ → ℕ → Bool
by_bits a b x y = if nat_eq x y then nat_lt a b else nat_lt y x

pub signed_order-by_top_bits : (w a b : ℕ) → 1 ≤ w → a < 2 ^ w → b < 2 ^ w → int_lt (signed_at w a) (signed_at w b) ≡ (if nat_eq (bit_at a (w - 1)) (bit_at b (w - 1)) then nat_lt a b else nat_lt (bit_at b (w - 1)) (bit_at a (w - 1)))
unfolding by_bits
signed_order-by_top_bits w a b n h l =
    elim (cases_lt a (2 ^ (w - 1))) [
      | inl clear ↦ elim (cases_lt b (2 ^ (w - 1))) [
        | inl other_clear ↦ ap₂ int_lt (signed_at-clear w a clear) (signed_at-clear w b other_clear) ∙ sym (ap₂ (by_bits a b) (top_bit_clear w a clear) (top_bit_clear w b other_clear))
        | inr other_set ↦ ap₂ int_lt (signed_at-clear w a clear) (signed_at-set w b other_set) ∙ above_negative a b (2 ^ w) l ∙ sym (ap₂ (by_bits a b) (top_bit_clear w a clear) (top_bit_set w b n l other_set))
      ]
      | inr set ↦ elim (cases_lt b (2 ^ (w - 1))) [
        | inl other_clear ↦ ap₂ int_lt (signed_at-set w a set) (signed_at-clear w b other_clear) ∙ below_positive a b (2 ^ w) h ∙ sym (ap₂ (by_bits a b) (top_bit_set w a n h set) (top_bit_clear w b other_clear))
        | inr other_set ↦ ap₂ int_lt (signed_at-set w a set) (signed_at-set w b other_set) ∙ both_negative a b (2 ^ w) h l ∙ sym (ap₂ (by_bits a b) (top_bit_set w a n h set) (top_bit_set w b n l other_set))
      ]
    ]
