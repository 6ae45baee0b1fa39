-- Arithmetic at 0, at 1, at all ones, and in one bit.
use Rattle.std.specs.Prelude.{min, nat_eq, nat_lt, nat_le, if◌then◌else◌}
use Rattle.std.proofs.Common.{◌≡◌, ◌∙◌, ◌⊎◌, ℕ, zero, suc, ◌+◌, ◌-◌, ◌*◌, ◌/◌, ◌%◌, ◌^◌, ◌<◌, ◌≤◌, Bool, true, false, refl, sym, ap, subst, arith, inl, inr}
use Rattle.std.proofs.lemmas.Bool.{cases_lt, le-ltb, le-leb, eqb-true}
use Rattle.std.proofs.lemmas.Nat.{pow_pos}
use Rattle.std.proofs.Math.Nat.{mod-eq_of_lt, div-eq_of_lt, mul-mod_left, mod_self, zero-mod, add-mul-mod_self_left, mod-one, div-one, zero-div, pow-suc}
use Rattle.civl_bits.specs.Word.{sum_at, difference_at, product_at, quotient_at, remainder_at, left_shift_at, right_shift_at}

pub below_pow : (n : ℕ) → n < 2 ^ n
below_pow zero = omega arith
below_pow (suc n) = rw (pow-suc 2 n) (omega (arith, below_pow n))

pub one_bit : (n : ℕ) → n < 2 ^ 1 → (n ≡ 0) ⊎ (n ≡ 1)
one_bit n h = elim (cases_lt n 1) [
  | inl l ↦ inl (omega arith)
  | inr g ↦ inr (omega arith)
]

-- a statement of words of one bit, of which there are two
pub narrow : (P : ℕ → ℕ → Type 0) (w n : ℕ) → w ≡ 1 → n < 2 ^ w → P 1 0 → P 1 1 → P w n
narrow P w n e h p q =
    let l : n < 2 ^ 1 = subst (λ v. n < 2 ^ v) e h in
    subst (λ v. P v n) (sym e) (elim (one_bit n l) [
      | inl z ↦ subst (P 1) (sym z) p
      | inr o ↦ subst (P 1) (sym o) q
    ])

-- ---- sums

pub zero_plus : (w m n : ℕ) → m ≡ 0 → n < 2 ^ w → sum_at w m n ≡ n
zero_plus w m n e h = ap (λ k. k % 2 ^ w) (omega (arith, e)) ∙ mod-eq_of_lt h

pub plus_zero : (w m n : ℕ) → n ≡ 0 → m < 2 ^ w → sum_at w m n ≡ m
plus_zero w m n e h = ap (λ k. k % 2 ^ w) (omega (arith, e)) ∙ mod-eq_of_lt h

pub minus_zero : (w m n : ℕ) → n ≡ 0 → m < 2 ^ w → difference_at w m n ≡ m
minus_zero w m n e h = ap (λ k. (m + (2 ^ w - k)) % 2 ^ w) e ∙ whole (2 ^ w) m h
  where
    whole : (p k : ℕ) → k < p → (k + (p - 0)) % p ≡ k
    whole p k l = ap (λ j. j % p) (omega arith) ∙ add-mul-mod_self_left k p 1 ∙ mod-eq_of_lt l

pub minus_itself : (w m : ℕ) → m < 2 ^ w → difference_at w m m ≡ 0
minus_itself w m h = ap (λ k. k % 2 ^ w) (omega arith) ∙ mod_self (2 ^ w)

pub plus_itself : (w m : ℕ) → w ≡ 1 → m < 2 ^ w → sum_at w m m ≡ 0
plus_itself w m e h = narrow (λ v k. sum_at v k k ≡ 0) w m e h refl refl

pub zero_minus : (w m n : ℕ) → m ≡ 0 → w ≡ 1 → n < 2 ^ w → difference_at w m n ≡ n
zero_minus w m n z e h = ap (λ k. difference_at w k n) z ∙ narrow (λ v k. difference_at v 0 k ≡ k) w n e h refl refl

-- ---- products

pub zero_times : (w m n : ℕ) → m ≡ 0 → product_at w m n ≡ m
zero_times w m n e = ap (λ k. k * n % 2 ^ w) e ∙ nothing_left (2 ^ w) n (pow_pos w) ∙ sym e
  where
    nothing_left : (p k : ℕ) → 0 < p → 0 * k % p ≡ 0
    nothing_left p k l = omega arith

pub times_zero : (w m n : ℕ) → n ≡ 0 → product_at w m n ≡ n
times_zero w m n e = ap (λ k. m * k % 2 ^ w) e ∙ ap (λ k. k % 2 ^ w) (omega arith) ∙ mod-eq_of_lt (pow_pos w) ∙ sym e

pub one_times : (w m n : ℕ) → m ≡ 1 → n < 2 ^ w → product_at w m n ≡ n
one_times w m n e h = ap (λ k. k * n % 2 ^ w) e ∙ ap (λ k. k % 2 ^ w) (omega arith) ∙ mod-eq_of_lt h

pub times_one : (w m n : ℕ) → n ≡ 1 → m < 2 ^ w → product_at w m n ≡ m
times_one w m n e h = ap (λ k. m * k % 2 ^ w) e ∙ ap (λ k. k % 2 ^ w) (omega arith) ∙ mod-eq_of_lt h

pub times_itself : (w m : ℕ) → w ≡ 1 → m < 2 ^ w → product_at w m m ≡ m
times_itself w m e h = narrow (λ v k. product_at v k k ≡ k) w m e h refl refl

-- ---- shifts

pub zero_left : (w m n : ℕ) → m ≡ 0 → left_shift_at w m n ≡ m
zero_left w m n e = ap (λ k. k * 2 ^ min n w % 2 ^ w) e ∙ ap (λ k. k % 2 ^ w) (omega arith) ∙ mod-eq_of_lt (pow_pos w) ∙ sym e

pub left_zero : (w m n : ℕ) → n ≡ 0 → m < 2 ^ w → left_shift_at w m n ≡ m
left_zero w m n e h =
    let z : min n w ≡ 0 = omega (arith, e) in
    ap (λ k. m * 2 ^ k % 2 ^ w) z ∙ ap (λ k. k % 2 ^ w) (omega arith) ∙ mod-eq_of_lt h

pub left_past : (w m n : ℕ) → w ≤ n → left_shift_at w m n ≡ 0
left_past w m n h =
    let z : min n w ≡ w = omega arith in
    ap (λ k. m * 2 ^ k % 2 ^ w) z ∙ mul-mod_left m (2 ^ w)

pub left_itself : (w m : ℕ) → w ≡ 1 → m < 2 ^ w → left_shift_at w m m ≡ 0
left_itself w m e h = narrow (λ v k. left_shift_at v k k ≡ 0) w m e h refl refl

pub zero_right : (w m n : ℕ) → m ≡ 0 → right_shift_at w m n ≡ m
zero_right w m n e = ap (λ k. k / 2 ^ min n w) e ∙ zero-div (2 ^ min n w) ∙ sym e

pub right_zero : (w m n : ℕ) → n ≡ 0 → right_shift_at w m n ≡ m
right_zero w m n e =
    let z : min n w ≡ 0 = omega (arith, e) in
    ap (λ k. m / 2 ^ k) z ∙ div-one m

pub right_past : (w m n : ℕ) → w ≤ n → m < 2 ^ w → right_shift_at w m n ≡ 0
right_past w m n h l =
    let z : min n w ≡ w = omega arith in
    ap (λ k. m / 2 ^ k) z ∙ div-eq_of_lt l

pub right_itself : (w m : ℕ) → m < 2 ^ w → right_shift_at w m m ≡ 0
right_itself w m h = elim (cases_lt m w) [
  | inl l ↦ let z : min m w ≡ m = omega arith in ap (λ k. m / 2 ^ k) z ∙ div-eq_of_lt (below_pow m)
  | inr g ↦ right_past w m m g h
]

-- ---- division

pub by_zero : (w m n : ℕ) → n ≡ 0 → quotient_at w m n ≡ 2 ^ w - 1
by_zero w m n e = ap (quotient_at w m) e

pub by_one : (w m n : ℕ) → n ≡ 1 → quotient_at w m n ≡ m
by_one w m n e = ap (quotient_at w m) e ∙ div-one m

pub one_by : (w m n : ℕ) → m ≡ 1 → w ≡ 1 → n < 2 ^ w → quotient_at w m n ≡ m
one_by w m n o e h = ap (λ k. quotient_at w k n) o ∙ narrow (λ v k. quotient_at v 1 k ≡ 1) w n e h refl refl ∙ sym o

pub by_itself : (w m : ℕ) → w ≡ 1 → m < 2 ^ w → quotient_at w m m ≡ 1
by_itself w m e h = narrow (λ v k. quotient_at v k k ≡ 1) w m e h refl refl

pub left_of_zero : (w m n : ℕ) → m ≡ 0 → remainder_at w m n ≡ m
left_of_zero w m n e = ap (λ k. remainder_at w k n) e ∙ none (nat_eq n 0) ∙ sym e
  where
    none : (b : Bool) → (if b then 0 else 0 % n) ≡ 0
    none true = refl
    none false = zero-mod n

pub left_by_zero : (w m n : ℕ) → n ≡ 0 → remainder_at w m n ≡ m
left_by_zero w m n e = ap (remainder_at w m) e

pub left_by_one : (w m n : ℕ) → n ≡ 1 → remainder_at w m n ≡ 0
left_by_one w m n e = ap (remainder_at w m) e ∙ mod-one m

pub left_by_itself : (w m : ℕ) → remainder_at w m m ≡ 0
left_by_itself w m = none (nat_eq m 0) refl
  where
    none : (b : Bool) → nat_eq m 0 ≡ b → (if b then m else m % m) ≡ 0
    none true e = eqb-true m 0 e
    none false e = mod_self m

-- ---- the order

pub none_below_zero : (m n : ℕ) → n ≡ 0 → nat_lt m n ≡ false
none_below_zero m n e = le-ltb m n (omega (arith, e))

pub none_above_ones : (w m n : ℕ) → m ≡ 2 ^ w - 1 → n < 2 ^ w → nat_lt m n ≡ false
none_above_ones w m n e h = le-ltb m n (omega (arith, e, h))

pub zero_least : (m n : ℕ) → m ≡ 0 → nat_le m n ≡ true
zero_least m n e = le-leb m n (omega (arith, e))

pub ones_greatest : (w m n : ℕ) → n ≡ 2 ^ w - 1 → m < 2 ^ w → nat_le m n ≡ true
ones_greatest w m n e h = le-leb m n (omega (arith, e, h))

pub not_below_itself : (m : ℕ) → nat_lt m m ≡ false
not_below_itself m = le-ltb m m (omega arith)

pub at_most_itself : (m : ℕ) → nat_le m m ≡ true
at_most_itself m = le-leb m m (omega arith)
