-- What a folding of an operation on two words says, operator by operator.
use Rattle.std.specs.Prelude.{nat_eq, if◌then◌else◌}
use Rattle.std.proofs.Common.{◌≡◌, ◌∙◌, ℕ, ◌-◌, ◌^◌, ◌<◌, ◌≤◌, Bool, true, false, refl, ap, Some, inl, inr}
use Rattle.std.proofs.lemmas.Bool.{eqb-true, leb-true, and_parts, or_cases}
use Rattle.civl_bits.specs.Word.{sum_at, difference_at, product_at, quotient_at, remainder_at, bitwise_and_at, bitwise_or_at, bitwise_xor_at, left_shift_at, right_shift_at, arithmetic_right_shift_at}
use Rattle.civl_bits.specs.declared.value.Value.{Value}
use Rattle.civl_bits.specs.declared.value.Value.TheVariants as value
use Rattle.civl_tree.specs.declared.expr.Two.{Two}
use Rattle.civl_tree.specs.declared.expr.Two.TheVariants.{Add, Sub, Mul, BitAnd, BitOr, BitXor, Shl, Shr, Lt, Le, Udiv, Urem, Slt, Sle, Sar}
use Rattle.civl_tree.specs.declared.expr.Sort.TheVariants as sort
use Rattle.civl_firing.specs.values.Operators.{is_less, is_less_or_same, is_signed_less, is_signed_less_or_same}
use Rattle.civl_tree.specs.rules.Exprs.{is_width}
use Rattle.civl_firing.specs.values.Values.{zero_of}
use Rattle.civl_terms.specs.declared.foldings.folded.Folded.{Folded}
use Rattle.civl_terms.specs.foldings.Folding.{when, with_itself, after_constant, before_constant, IsFolded}
use Rattle.civl_terms.proofs.foldings.Numbers.{zero_plus, plus_zero, minus_zero, minus_itself, plus_itself, zero_minus, zero_times, times_zero, one_times, times_one, times_itself, zero_left, left_zero, left_past, left_itself, zero_right, right_zero, right_past, right_itself, by_zero, by_one, one_by, by_itself, left_of_zero, left_by_zero, left_by_one, left_by_itself, none_below_zero, none_above_ones, zero_least, ones_greatest, not_below_itself, at_most_itself}
use Rattle.civl_terms.proofs.foldings.Bitwise.{zero_and, and_zero, ones_and, and_ones, and_itself, zero_or, or_zero, ones_or, or_ones, or_itself, zero_xor, xor_zero, xor_itself, zero_sar, ones_sar, sar_zero, sar_narrow}
use Rattle.civl_terms.proofs.foldings.Signed.{greatest_first, greatest_second, least_second, least_first, signed_itself, signed_at_most_itself}

-- ---- tests in the table

pub when_is : (b : Bool) (f : Folded) (r x y z : Value) → (b ≡ true → IsFolded f r x y z) → IsFolded (when b f) r x y z
when_is true f r x y z h = h refl
when_is false f r x y z h = tt

pub if_is : (b : Bool) (f g : Folded) (r x y z : Value) → (b ≡ true → IsFolded f r x y z) → IsFolded g r x y z → IsFolded (if b then f else g) r x y z
if_is true f g r x y z h k = h refl
if_is false f g r x y z h k = k

word : (w a b : ℕ) → a ≡ b → value.Word (w, a) ≡ value.Word (w, b)
word w a b e = ap (λ (k : ℕ). value.Word (w, k)) e

bool : (a b : Bool) → a ≡ b → value.Bool a ≡ value.Bool b
bool a b e = ap (λ (k : Bool). value.Bool k) e

-- whatever the third operand is
module _ (third : Value) where
  -- ---- c op x

  abbrev After : Two → (ℕ → ℕ → ℕ → Value) → Type 0
  After op r = (w m n : ℕ) → 1 ≤ w → m < 2 ^ w → n < 2 ^ w → IsFolded (after_constant op (value.Word (w, m))) (r w m n) (value.Word (w, m)) (value.Word (w, n)) third

  abbrev pub OnWords : (ℕ → ℕ → ℕ → ℕ) → ℕ → ℕ → ℕ → Value
  OnWords f w m n = value.Word (w, f w m n)

  abbrev pub Tests : (ℕ → ℕ → ℕ → Bool) → ℕ → ℕ → ℕ → Value
  Tests f w m n = value.Bool (f w m n)

  pub add_after : After Add (OnWords sum_at)
  add_after w m n p h l = when_is _ _ _ _ _ _ (λ e. word w _ _ (zero_plus w m n (eqb-true m 0 e) l))

  pub sub_after : After Sub (OnWords difference_at)
  sub_after w m n p h l = when_is _ _ _ _ _ _ (λ e. let b = and_parts (nat_eq m 0) (nat_eq w 1) e in word w _ _ (zero_minus w m n (eqb-true m 0 b.0) (eqb-true w 1 b.1) l))

  pub mul_after : After Mul (OnWords product_at)
  mul_after w m n p h l =
      if_is _ _ _ _ _ _ _ (λ e. word w _ _ (zero_times w m n (eqb-true m 0 e)))
      (when_is _ _ _ _ _ _ (λ e. word w _ _ (one_times w m n (eqb-true m 1 e) l)))

  pub and_after : After BitAnd (OnWords bitwise_and_at)
  and_after w m n p h l =
      if_is _ _ _ _ _ _ _ (λ e. word w _ _ (zero_and w m n (eqb-true m 0 e) h))
      (when_is _ _ _ _ _ _ (λ e. word w _ _ (ones_and w m n (eqb-true m (2 ^ w - 1) e) l)))

  pub or_after : After BitOr (OnWords bitwise_or_at)
  or_after w m n p h l =
      if_is _ _ _ _ _ _ _ (λ e. word w _ _ (zero_or w m n (eqb-true m 0 e) l))
      (when_is _ _ _ _ _ _ (λ e. word w _ _ (ones_or w m n (eqb-true m (2 ^ w - 1) e) h)))

  pub xor_after : After BitXor (OnWords bitwise_xor_at)
  xor_after w m n p h l = when_is _ _ _ _ _ _ (λ e. word w _ _ (zero_xor w m n (eqb-true m 0 e) l))

  pub shl_after : After Shl (OnWords left_shift_at)
  shl_after w m n p h l = when_is _ _ _ _ _ _ (λ e. word w _ _ (zero_left w m n (eqb-true m 0 e)))

  pub shr_after : After Shr (OnWords right_shift_at)
  shr_after w m n p h l = when_is _ _ _ _ _ _ (λ e. word w _ _ (zero_right w m n (eqb-true m 0 e)))

  pub udiv_after : After Udiv (OnWords quotient_at)
  udiv_after w m n p h l = when_is _ _ _ _ _ _ (λ e. let b = and_parts (nat_eq m 1) (nat_eq w 1) e in word w _ _ (one_by w m n (eqb-true m 1 b.0) (eqb-true w 1 b.1) l))

  pub urem_after : After Urem (OnWords remainder_at)
  urem_after w m n p h l = when_is _ _ _ _ _ _ (λ e. word w _ _ (left_of_zero w m n (eqb-true m 0 e)))

  pub sar_after : After Sar (OnWords arithmetic_right_shift_at)
  sar_after w m n p h l = when_is _ _ _ _ _ _ (λ e. word w _ _ (elim (or_cases (nat_eq m 0) (nat_eq m (2 ^ w - 1)) e) [
    | inl z ↦ zero_sar w m n (eqb-true m 0 z) h
    | inr o ↦ ones_sar w m n (eqb-true m (2 ^ w - 1) o) h
  ]))

  pub lt_after : After Lt (Tests is_less)
  lt_after w m n p h l = when_is _ _ _ _ _ _ (λ e. bool _ _ (none_above_ones w m n (eqb-true m (2 ^ w - 1) e) l))

  pub le_after : After Le (Tests is_less_or_same)
  le_after w m n p h l = when_is _ _ _ _ _ _ (λ e. bool _ _ (zero_least m n (eqb-true m 0 e)))

  pub slt_after : After Slt (Tests is_signed_less)
  slt_after w m n p h l = when_is _ _ _ _ _ _ (λ e. bool _ _ (greatest_first w m n (eqb-true m (2 ^ (w - 1) - 1) e) l))

  pub sle_after : After Sle (Tests is_signed_less_or_same)
  sle_after w m n p h l = when_is _ _ _ _ _ _ (λ e. bool _ _ (least_first w m n (eqb-true m (2 ^ (w - 1)) e) h l))

  -- ---- x op c

  abbrev Before : Two → (ℕ → ℕ → ℕ → Value) → Type 0
  Before op r = (w m n : ℕ) → 1 ≤ w → m < 2 ^ w → n < 2 ^ w → IsFolded (before_constant op (value.Word (w, n))) (r w m n) (value.Word (w, m)) (value.Word (w, n)) third

  pub add_before : Before Add (OnWords sum_at)
  add_before w m n p h l = when_is _ _ _ _ _ _ (λ e. word w _ _ (plus_zero w m n (eqb-true n 0 e) h))

  pub sub_before : Before Sub (OnWords difference_at)
  sub_before w m n p h l = when_is _ _ _ _ _ _ (λ e. word w _ _ (minus_zero w m n (eqb-true n 0 e) h))

  pub mul_before : Before Mul (OnWords product_at)
  mul_before w m n p h l =
      if_is _ _ _ _ _ _ _ (λ e. word w _ _ (times_zero w m n (eqb-true n 0 e)))
      (when_is _ _ _ _ _ _ (λ e. word w _ _ (times_one w m n (eqb-true n 1 e) h)))

  pub and_before : Before BitAnd (OnWords bitwise_and_at)
  and_before w m n p h l =
      if_is _ _ _ _ _ _ _ (λ e. word w _ _ (and_zero w m n (eqb-true n 0 e) l))
      (when_is _ _ _ _ _ _ (λ e. word w _ _ (and_ones w m n (eqb-true n (2 ^ w - 1) e) h)))

  pub or_before : Before BitOr (OnWords bitwise_or_at)
  or_before w m n p h l =
      if_is _ _ _ _ _ _ _ (λ e. word w _ _ (or_zero w m n (eqb-true n 0 e) h))
      (when_is _ _ _ _ _ _ (λ e. word w _ _ (or_ones w m n (eqb-true n (2 ^ w - 1) e) l)))

  pub xor_before : Before BitXor (OnWords bitwise_xor_at)
  xor_before w m n p h l = when_is _ _ _ _ _ _ (λ e. word w _ _ (xor_zero w m n (eqb-true n 0 e) h))

  pub shl_before : Before Shl (OnWords left_shift_at)
  shl_before w m n p h l =
      if_is _ _ _ _ _ _ _ (λ e. word w _ _ (left_zero w m n (eqb-true n 0 e) h))
      (when_is _ _ _ _ _ _ (λ e. word w _ _ (left_past w m n (leb-true w n e))))

  pub shr_before : Before Shr (OnWords right_shift_at)
  shr_before w m n p h l =
      if_is _ _ _ _ _ _ _ (λ e. word w _ _ (right_zero w m n (eqb-true n 0 e)))
      (when_is _ _ _ _ _ _ (λ e. word w _ _ (right_past w m n (leb-true w n e) h)))

  pub udiv_before : Before Udiv (OnWords quotient_at)
  udiv_before w m n p h l =
      if_is _ _ _ _ _ _ _ (λ e. word w _ _ (by_zero w m n (eqb-true n 0 e)))
      (when_is _ _ _ _ _ _ (λ e. word w _ _ (by_one w m n (eqb-true n 1 e))))

  pub urem_before : Before Urem (OnWords remainder_at)
  urem_before w m n p h l =
      if_is _ _ _ _ _ _ _ (λ e. word w _ _ (left_by_zero w m n (eqb-true n 0 e)))
      (when_is _ _ _ _ _ _ (λ e. word w _ _ (left_by_one w m n (eqb-true n 1 e))))

  pub sar_before : Before Sar (OnWords arithmetic_right_shift_at)
  sar_before w m n p h l = when_is _ _ _ _ _ _ (λ e. word w _ _ (elim (or_cases (nat_eq n 0) (nat_eq w 1) e) [
    | inl z ↦ sar_zero w m n (eqb-true n 0 z) h
    | inr o ↦ sar_narrow w m n (eqb-true w 1 o) h
  ]))

  pub lt_before : Before Lt (Tests is_less)
  lt_before w m n p h l = when_is _ _ _ _ _ _ (λ e. bool _ _ (none_below_zero m n (eqb-true n 0 e)))

  pub le_before : Before Le (Tests is_less_or_same)
  le_before w m n p h l = when_is _ _ _ _ _ _ (λ e. bool _ _ (ones_greatest w m n (eqb-true n (2 ^ w - 1) e) h))

  pub slt_before : Before Slt (Tests is_signed_less)
  slt_before w m n p h l = when_is _ _ _ _ _ _ (λ e. bool _ _ (least_second w m n (eqb-true n (2 ^ (w - 1)) e) h l))

  pub sle_before : Before Sle (Tests is_signed_less_or_same)
  sle_before w m n p h l = when_is _ _ _ _ _ _ (λ e. bool _ _ (greatest_second w m n (eqb-true n (2 ^ (w - 1) - 1) e) h))

  -- ---- x op x

  abbrev Itself : Two → (ℕ → ℕ → ℕ → Value) → Type 0
  Itself op r = (w m : ℕ) → is_width w ≡ true → m < 2 ^ w → IsFolded (with_itself op (Some (sort.Word w))) (r w m m) (value.Word (w, m)) (value.Word (w, m)) third

  zero_word : (w : ℕ) → is_width w ≡ true → value.Word (w, 0) ≡ zero_of (sort.Word w)
  zero_word w e = rw e refl

  to_zero : (w k : ℕ) → is_width w ≡ true → k ≡ 0 → value.Word (w, k) ≡ zero_of (sort.Word w)
  to_zero w k e z = word w k 0 z ∙ zero_word w e

  pub add_itself : Itself Add (OnWords sum_at)
  add_itself w m p h = when_is _ _ _ _ _ _ (λ e. to_zero w _ p (plus_itself w m (eqb-true w 1 e) h))

  pub sub_itself : Itself Sub (OnWords difference_at)
  sub_itself w m p h = to_zero w _ p (minus_itself w m h)

  pub mul_itself : Itself Mul (OnWords product_at)
  mul_itself w m p h = when_is _ _ _ _ _ _ (λ e. word w _ _ (times_itself w m (eqb-true w 1 e) h))

  pub and_with_itself : Itself BitAnd (OnWords bitwise_and_at)
  and_with_itself w m p h = word w _ _ (and_itself w m h)

  pub or_with_itself : Itself BitOr (OnWords bitwise_or_at)
  or_with_itself w m p h = word w _ _ (or_itself w m h)

  pub xor_with_itself : Itself BitXor (OnWords bitwise_xor_at)
  xor_with_itself w m p h = to_zero w _ p (xor_itself w m)

  pub shl_itself : Itself Shl (OnWords left_shift_at)
  shl_itself w m p h = when_is _ _ _ _ _ _ (λ e. to_zero w _ p (left_itself w m (eqb-true w 1 e) h))

  pub shr_itself : Itself Shr (OnWords right_shift_at)
  shr_itself w m p h = to_zero w _ p (right_itself w m h)

  pub udiv_itself : Itself Udiv (OnWords quotient_at)
  udiv_itself w m p h = when_is _ _ _ _ _ _ (λ e.
      word w _ _ (by_itself w m (eqb-true w 1 e) h) ∙ ap (λ (k : ℕ). value.Word (k, 1)) (eqb-true w 1 e))

  pub urem_itself : Itself Urem (OnWords remainder_at)
  urem_itself w m p h = to_zero w _ p (left_by_itself w m)

  pub sar_itself : Itself Sar (OnWords arithmetic_right_shift_at)
  sar_itself w m p h = when_is _ _ _ _ _ _ (λ e. word w _ _ (sar_narrow w m m (eqb-true w 1 e) h))

  pub lt_itself : Itself Lt (Tests is_less)
  lt_itself w m p h = bool _ _ (not_below_itself m)

  pub le_itself : Itself Le (Tests is_less_or_same)
  le_itself w m p h = bool _ _ (at_most_itself m)

  pub slt_itself : Itself Slt (Tests is_signed_less)
  slt_itself w m p h = bool _ _ (signed_itself w m h)

  pub sle_itself : Itself Sle (Tests is_signed_less_or_same)
  sle_itself w m p h = bool _ _ (signed_at_most_itself w m h)
