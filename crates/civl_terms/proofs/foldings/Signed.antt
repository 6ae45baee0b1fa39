-- The ends of the order by two's complement.
use Rattle.std.specs.Prelude.{int_lt, int_le}
use Rattle.std.proofs.Common.{◌≡◌, ◌∙◌, ℕ, ◌+◌, ◌-◌, ◌*◌, ◌^◌, ◌<◌, ◌≤◌, true, false, pos, ◌-ℤ◌, ap, ap₂, arith, inl, inr}
use Rattle.std.proofs.lemmas.Bool.{cases_lt}
use Rattle.std.proofs.lemmas.Int.{ints}
use Rattle.std.proofs.lemmas.Nat.{pow_pos}
use Rattle.std.proofs.Math.Nat.{pow-suc}
use Rattle.civl_bits.specs.Word.{signed_at}
use Rattle.civl_bits.proofs.SignedOrder.{signed_at-clear, signed_at-set, above_negative}

pub doubled : (w : ℕ) → 1 ≤ w → 2 ^ w ≡ 2 ^ (w - 1) * 2
doubled w h = let e : w ≡ (w - 1) + 1 = omega arith in ap (λ k. 2 ^ k) e ∙ grow (w - 1)
  where
    grow : (k : ℕ) → 2 ^ (k + 1) ≡ 2 ^ k * 2
    grow k = ap (λ j. 2 ^ j) (omega arith) ∙ pow-suc 2 k

clear_clear : (a b : ℕ) → b ≤ a → int_lt (pos a) (pos b) ≡ false
clear_clear a b h = grind (arith, ints)

set_set : (a b p : ℕ) → a < p → b < p → b ≤ a → int_lt (pos a -ℤ pos p) (pos b -ℤ pos p) ≡ false
set_set a b p h k l = grind (arith, ints)

le_clear : (a b : ℕ) → a ≤ b → int_le (pos a) (pos b) ≡ true
le_clear a b h = grind (arith, ints)

le_set_clear : (a b p : ℕ) → a < p → int_le (pos a -ℤ pos p) (pos b) ≡ true
le_set_clear a b p h = grind (arith, ints)

le_set : (a b p : ℕ) → a < p → b < p → a ≤ b → int_le (pos a -ℤ pos p) (pos b -ℤ pos p) ≡ true
le_set a b p h k l = grind (arith, ints)

-- nothing is above the greatest word
pub greatest_first : (w m n : ℕ) → m ≡ 2 ^ (w - 1) - 1 → n < 2 ^ w → int_lt (signed_at w m) (signed_at w n) ≡ false
greatest_first w m n e h =
    let c : m < 2 ^ (w - 1) = omega (arith, e, pow_pos (w - 1)) in
    elim (cases_lt n (2 ^ (w - 1))) [
      | inl l ↦ ap₂ int_lt (signed_at-clear w m c) (signed_at-clear w n l) ∙ clear_clear m n (omega (arith, e, l))
      | inr g ↦ ap₂ int_lt (signed_at-clear w m c) (signed_at-set w n g) ∙ above_negative m n (2 ^ w) h
    ]

pub greatest_second : (w m n : ℕ) → n ≡ 2 ^ (w - 1) - 1 → m < 2 ^ w → int_le (signed_at w m) (signed_at w n) ≡ true
greatest_second w m n e h =
    let c : n < 2 ^ (w - 1) = omega (arith, e, pow_pos (w - 1)) in
    elim (cases_lt m (2 ^ (w - 1))) [
      | inl l ↦ ap₂ int_le (signed_at-clear w m l) (signed_at-clear w n c) ∙ le_clear m n (omega (arith, e, l))
      | inr g ↦ ap₂ int_le (signed_at-set w m g) (signed_at-clear w n c) ∙ le_set_clear m n (2 ^ w) h
    ]

-- nothing is below the least word
pub least_second : (w m n : ℕ) → n ≡ 2 ^ (w - 1) → m < 2 ^ w → n < 2 ^ w → int_lt (signed_at w m) (signed_at w n) ≡ false
least_second w m n e h k =
    let c : 2 ^ (w - 1) ≤ n = omega (arith, e) in
    elim (cases_lt m (2 ^ (w - 1))) [
      | inl l ↦ ap₂ int_lt (signed_at-clear w m l) (signed_at-set w n c) ∙ above_negative m n (2 ^ w) k
      | inr g ↦ ap₂ int_lt (signed_at-set w m g) (signed_at-set w n c) ∙ set_set m n (2 ^ w) h k (omega (arith, e, g))
    ]

pub least_first : (w m n : ℕ) → m ≡ 2 ^ (w - 1) → m < 2 ^ w → n < 2 ^ w → int_le (signed_at w m) (signed_at w n) ≡ true
least_first w m n e h k =
    let c : 2 ^ (w - 1) ≤ m = omega (arith, e) in
    elim (cases_lt n (2 ^ (w - 1))) [
      | inl l ↦ ap₂ int_le (signed_at-set w m c) (signed_at-clear w n l) ∙ le_set_clear m n (2 ^ w) h
      | inr g ↦ ap₂ int_le (signed_at-set w m c) (signed_at-set w n g) ∙ le_set m n (2 ^ w) h k (omega (arith, e, g))
    ]

pub signed_itself : (w m : ℕ) → m < 2 ^ w → int_lt (signed_at w m) (signed_at w m) ≡ false
signed_itself w m h =
    elim (cases_lt m (2 ^ (w - 1))) [
      | inl l ↦ ap₂ int_lt (signed_at-clear w m l) (signed_at-clear w m l) ∙ clear_clear m m (omega arith)
      | inr g ↦ ap₂ int_lt (signed_at-set w m g) (signed_at-set w m g) ∙ set_set m m (2 ^ w) h h (omega arith)
    ]

pub signed_at_most_itself : (w m : ℕ) → m < 2 ^ w → int_le (signed_at w m) (signed_at w m) ≡ true
signed_at_most_itself w m h =
    elim (cases_lt m (2 ^ (w - 1))) [
      | inl l ↦ ap₂ int_le (signed_at-clear w m l) (signed_at-clear w m l) ∙ le_clear m m (omega arith)
      | inr g ↦ ap₂ int_le (signed_at-set w m g) (signed_at-set w m g) ∙ le_set m m (2 ^ w) h h (omega arith)
    ]
