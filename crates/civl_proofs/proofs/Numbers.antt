-- Numbers, digit by digit.
use Rattle.std.proofs.Common.{◌≡◌, ℕ, ◌+◌, ◌*◌, ◌-◌, ◌^◌, ◌%◌, ◌<◌, ◌≤◌, zero, suc, Bool, true, false, cond, ◌&&◌, not, List, [], ◌∷◌, ◌++◌, length, get_or, take, Some, None, Option, refl, sym, ap, subst, ◌∙◌, arith, rules, eqb, leb, inl, inr, ◌⊎◌}
use Rattle.std.specs.List.{list_all}
use Rattle.std.specs.Char.{is_ascii_digit}
use Rattle.std.specs.Fmt.{decimal}
use Rattle.std.specs.Str.Parse.{digits_value}
use Rattle.std.specs.Char.{digit_value}
use Rattle.std.proofs.lemmas.Bool.{false≢true, and_parts, and_from, leb-true, le-leb, lt-ltb, le-ltb, eqb-true, eqb-false, or_cases, false_from_ne_true, not_from_false}
use Rattle.std.proofs.lemmas.Fmt.{decimal_digit, decimal_step, decimal_nonempty, first_decimal, digits_decimal, digits_value-decimal}
use Rattle.std.proofs.lemmas.Int.Digits.{digits_value_more}
use Rattle.std.proofs.lemmas.Nat.{div-mul-add, mod-mul-add}
use Rattle.std.proofs.lemmas.List.{take_at, get_or_at, length-append}
use Rattle.std.proofs.lemmas.List.Sums.{AllPass-from_list_all}
use Rattle.std.proofs.lemmas.Str.Parse.{IsNumeralModel, IsDigitsTest, numerals_by_value, digits_value-take-le}
use Rattle.civl_proofs.specs.Text.{is_blank}
use Rattle.civl_proofs.specs.inner.Reading.{with_digit, counted, IsWithin}
use Rattle.civl_proofs.proofs.Words.{is_dense}

abbrev pub AreDigits : List ℕ → Type 0
AreDigits text = list_all is_ascii_digit text ≡ true

tests : IsDigitsTest AreDigits
tests = search rules

own : IsNumeralModel AreDigits (digits_value 10)
own = numerals_by_value AreDigits tests

pub decimal_digits : (n : ℕ) → n < 2 ^ 32 → AreDigits (decimal n)
decimal_digits n h = digits_decimal own n (omega arith)

pub decimal_value : (n : ℕ) → n < 2 ^ 32 → digits_value 10 (decimal n) ≡ n
decimal_value n h = digits_value-decimal own n (omega arith)

-- ---- digits and blanks

pub digit_between : (byte : ℕ) → is_ascii_digit byte ≡ true → (48 ≤ byte) × (byte ≤ 57)
digit_between byte h =
    let parts = and_parts (leb 48 byte) (leb byte 57) h in
    (leb-true 48 byte parts.0, leb-true byte 57 parts.1)

pub blank_small : (byte : ℕ) → is_blank byte ≡ true → byte ≤ 32
blank_small byte h = elim (or_cases _ (eqb byte 32) h) [
  | inr e ↦ omega (arith, eqb-true byte 32 e)
  | inl g ↦ elim (or_cases _ (eqb byte 13) g) [
    | inr e ↦ omega (arith, eqb-true byte 13 e)
    | inl f ↦ elim (or_cases (eqb byte 9) (eqb byte 10) f) [
      | inl e ↦ omega (arith, eqb-true byte 9 e)
      | inr e ↦ omega (arith, eqb-true byte 10 e)
    ]
  ]
]

pub no_blank : (byte : ℕ) → 33 ≤ byte → is_blank byte ≡ false
no_blank byte h = false_from_ne_true (is_blank byte) (λ e. absurd (omega (arith, h, blank_small byte e)))

pub dense_digits : (text : List ℕ) → AreDigits text → is_dense text ≡ true
dense_digits [] h = refl
dense_digits (byte ∷ text) h =
    let parts = and_parts (is_ascii_digit byte) (list_all is_ascii_digit text) h in
    and_from (not (is_blank byte)) (is_dense text) (not_from_false (is_blank byte) (no_blank byte (omega (arith, (digit_between byte parts.0).0)))) (dense_digits text parts.1)

pub decimal_dense : (n : ℕ) → n < 2 ^ 32 → is_dense (decimal n) ≡ true
decimal_dense n h = dense_digits (decimal n) (decimal_digits n h)

-- a number has a first digit
pub record HasFirst (n : ℕ) : Type 0 where
  pub first : ℕ
  pub more : List ℕ
  pub is : decimal n ≡ first ∷ more
  pub digit : 48 ≤ first
  pub high : first ≤ 57
  pub plain : 0 < n → 48 < first

first_at : (n : ℕ) (text : List ℕ) → n < 2 ^ 32 → decimal n ≡ text → HasFirst n
first_at n [] h e = absurd (omega (arith, decimal_nonempty n (omega (arith, h)), ap length e))
first_at n (byte ∷ text) h e =
    let digits : AreDigits (byte ∷ text) = subst AreDigits e (decimal_digits n h) in
    let parts = and_parts (is_ascii_digit byte) (list_all is_ascii_digit text) digits in
    record {
      first = byte;
      more = text;
      is = e;
      digit = (digit_between byte parts.0).0;
      high = (digit_between byte parts.0).1;
      plain = λ some. subst (λ (xs : List ℕ). 48 < get_or xs 0 0) e (first_decimal n some (omega (arith, h)));
    }

pub has_first : (n : ℕ) → n < 2 ^ 32 → HasFirst n
has_first n h = first_at n (decimal n) h refl

-- ---- one digit more

pub record IsOneMore (limit value byte more : ℕ) : Type 0 where
  pub low : 48 ≤ byte
  pub high : byte ≤ 57
  pub is : more ≡ value * 10 + (byte - 48)
  pub within : more ≤ limit

one_more_at : (limit value byte more : ℕ) (b : Bool) → (is_ascii_digit byte && leb (value * 10 + (byte - 48)) limit) ≡ b → cond b (Some (value * 10 + (byte - 48))) None ≡ Some more → IsOneMore limit value byte more
one_more_at limit value byte more false e h = absurd (cc)
one_more_at limit value byte more true e h =
    let parts = and_parts (is_ascii_digit byte) (leb (value * 10 + (byte - 48)) limit) e in
    let same : value * 10 + (byte - 48) ≡ more = cc in
    record {
      low = (digit_between byte parts.0).0;
      high = (digit_between byte parts.0).1;
      is = sym same;
      within = subst (λ (n : ℕ). n ≤ limit) same (leb-true (value * 10 + (byte - 48)) limit parts.1);
    }

pub one_more : (limit value byte more : ℕ) → with_digit limit value byte ≡ Some more → IsOneMore limit value byte more
one_more limit value byte more h = one_more_at limit value byte more _ refl h

none_more_at : (limit value byte : ℕ) (b : Bool) → (is_ascii_digit byte && leb (value * 10 + (byte - 48)) limit) ≡ b → cond b (Some (value * 10 + (byte - 48))) None ≡ None → is_ascii_digit byte ≡ true → value * 10 + (byte - 48) ≤ limit → ⊥
none_more_at limit value byte false e h digit within = absurd (false≢true (sym e ∙ and_from _ _ digit (le-leb (value * 10 + (byte - 48)) limit within)))
none_more_at limit value byte true e h digit within = absurd (cc)

pub none_more : (limit value byte : ℕ) → with_digit limit value byte ≡ None → is_ascii_digit byte ≡ true → value * 10 + (byte - 48) ≤ limit → ⊥
none_more limit value byte h digit within = none_more_at limit value byte _ refl h digit within

appended : (n d : ℕ) → 0 < n → d < 10 → n * 10 + d < 2 ^ 64 → decimal (n * 10 + d) ≡ decimal n ++ (48 + d) ∷ []
appended n d some small fits =
    decimal_step (n * 10 + d) (omega (arith, some)) fits
    ∙ ap (λ (m : ℕ). decimal m ++ (48 + (n * 10 + d) % 10) ∷ []) (div-mul-add n 10 d small)
    ∙ ap (λ (k : ℕ). decimal n ++ (48 + k) ∷ []) (mod-mul-add n 10 d small)

-- the text of the value with one digit more
pub more_text : (limit value byte more : ℕ) → limit < 2 ^ 32 → 0 < value → with_digit limit value byte ≡ Some more → decimal more ≡ decimal value ++ byte ∷ []
more_text limit value byte more fits some h =
    let m = one_more limit value byte more h in
    let digit : 48 + (byte - 48) ≡ byte = omega (arith, m.low) in
    ap decimal m.is ∙ appended value (byte - 48) some (omega (arith, m.low, m.high)) (omega (arith, m.is, m.within, fits)) ∙ ap (λ (d : ℕ). decimal value ++ d ∷ []) digit

pub first_text : (limit byte more : ℕ) → with_digit limit 0 byte ≡ Some more → decimal more ≡ byte ∷ []
first_text limit byte more h =
    let m = one_more limit 0 byte more h in
    let digit : 48 + more ≡ byte = omega (arith, m.low, m.is) in
    decimal_digit more (omega (arith, m.is, m.high, m.low)) ∙ ap (λ (d : ℕ). d ∷ []) digit

-- ---- a number that begins with a digit more

pub record IsLonger (front byte n : ℕ) : Type 0 where
  pub digit : is_ascii_digit byte ≡ true
  pub value : front * 10 + (byte - 48) ≤ n

digit_value_is : (byte : ℕ) → is_ascii_digit byte ≡ true → digit_value byte ≡ byte - 48
digit_value_is byte h =
    let parts = digit_between byte h in
    rw (le-ltb byte 48 parts.0, lt-ltb byte 58 (omega (arith, parts.1))) refl

pub longer : (front more : List ℕ) (byte n : ℕ) → n < 2 ^ 32 → decimal n ≡ front ++ byte ∷ more → IsLonger (digits_value 10 front) byte n
longer front more byte n fits e =
    let size : length (decimal n) ≡ length front + length (byte ∷ more) = ap length e ∙ length-append front (byte ∷ more) in
    let within : length front < length (decimal n) = omega (arith, size) in
    let at : get_or (decimal n) (length front) 0 ≡ byte = ap (λ (xs : List ℕ). get_or xs (length front) 0) e ∙ get_or_at front byte more 0 (length front) refl in
    let digit : is_ascii_digit byte ≡ true = subst (λ (x : ℕ). is_ascii_digit x ≡ true) at (AllPass-from_list_all is_ascii_digit (decimal n) (decimal_digits n fits) (length front) 0 within) in
    let before : take (length front) (decimal n) ≡ front = ap (take (length front)) e ∙ take_at front (byte ∷ more) (length front) refl in
    let next : digits_value 10 (take (length front + 1) (decimal n)) ≡ digits_value 10 front * 10 + (byte - 48) =
    digits_value_more 10 (decimal n) (length front) within
    ∙ ap (λ (xs : List ℕ). digits_value 10 xs * 10 + digit_value (get_or (decimal n) (length front) 0)) before
    ∙ ap (λ (x : ℕ). digits_value 10 front * 10 + digit_value x) at
    ∙ ap (λ (x : ℕ). digits_value 10 front * 10 + x) (digit_value_is byte digit) in
    let most = digits_value-take-le 10 (decimal n) (length front + 1) (omega arith) in
    record {
      digit = digit;
      value = omega (arith, next, most, decimal_value n fits);
    }

-- a number within the limit that begins with the value's digits and one byte more
pub digit_fits : (limit value byte n : ℕ) (more : List ℕ) → limit < 2 ^ 32 → value < 2 ^ 32 → n ≤ limit → decimal n ≡ decimal value ++ byte ∷ more → with_digit limit value byte ≡ None → ⊥
digit_fits limit value byte n more fits small within e h =
    let l = longer (decimal value) more byte n (omega (arith, fits, within)) e in
    none_more limit value byte h l.digit (omega (arith, l.value, decimal_value value small, within))

pub first_fits : (limit byte n : ℕ) (more : List ℕ) → limit < 2 ^ 32 → n ≤ limit → decimal n ≡ byte ∷ more → with_digit limit 0 byte ≡ None → ⊥
first_fits limit byte n more fits within e h =
    let l = longer [] more byte n (omega (arith, fits, within)) e in
    none_more limit 0 byte h l.digit (omega (arith, l.value, within))

-- ---- numbers of the header

abbrev pub digits_of : Option ℕ → List ℕ
digits_of None = []
digits_of (Some value) = decimal value

pub cond_split : {A : Type 0} (b : Bool) (x y z : A) → cond b x y ≡ z → ((b ≡ true) × (x ≡ z)) ⊎ ((b ≡ false) × (y ≡ z))
cond_split true x y z h = inl (refl, h)
cond_split false x y z h = inr (refl, h)

small_cases : (n : ℕ) → (n ≡ 0) ⊎ (0 < n)
small_cases zero = inl refl
small_cases (suc n) = inr (omega arith)

more_counted : (limit value byte more : ℕ) → limit < 2 ^ 32 → counted limit (Some value) byte ≡ Some more → (decimal more ≡ decimal value ++ byte ∷ []) × (more ≤ limit)
more_counted limit value byte more fits h = elim (cond_split (eqb value 0) None (with_digit limit value byte) (Some more) h) [
  | inl e ↦ let no_number : None ≡ Some more = e.1 in absurd (cc)
  | inr e ↦ elim (small_cases value) [
    | inl nought ↦ absurd (eqb-false value 0 e.0 nought)
    | inr some ↦ (more_text limit value byte more fits some e.1, (one_more limit value byte more e.1).within)
  ]
]

-- the digits of a number with one more
pub counted_some : (limit : ℕ) (value : Option ℕ) (byte more : ℕ) → limit < 2 ^ 32 → counted limit value byte ≡ Some more → (decimal more ≡ digits_of value ++ byte ∷ []) × (more ≤ limit)
counted_some limit None byte more fits h = (first_text limit byte more h, (one_more limit 0 byte more h).within)
counted_some limit (Some value) byte more fits h = more_counted limit value byte more fits h

nought_alone : (n byte : ℕ) (more : List ℕ) → n < 2 ^ 32 → decimal n ≡ 48 ∷ byte ∷ more → ⊥
nought_alone n byte more small e = elim (small_cases n) [
  | inl nought ↦
      let one : length (decimal n) ≡ 1 = ap (λ (m : ℕ). length (decimal m)) nought ∙ ap length (decimal_digit 0 (omega arith)) in
      absurd (omega (arith, one, ap length e))
  | inr some ↦
      let more_than : 48 < get_or (decimal n) 0 0 = first_decimal n some (omega (arith, small)) in
      absurd (omega (arith, more_than, ap (λ (xs : List ℕ). get_or xs 0 0) e))
]

more_none : (limit value byte n : ℕ) (more : List ℕ) → limit < 2 ^ 32 → value ≤ limit → n ≤ limit → decimal n ≡ decimal value ++ byte ∷ more → counted limit (Some value) byte ≡ None → ⊥
more_none limit value byte n more fits within low e h = elim (cond_split (eqb value 0) None (with_digit limit value byte) None h) [
  | inl f ↦
      let nought : decimal value ≡ 48 ∷ [] = ap decimal (eqb-true value 0 f.0) ∙ decimal_digit 0 (omega arith) in
      nought_alone n byte more (omega (arith, fits, low)) (e ∙ ap (λ (xs : List ℕ). xs ++ byte ∷ more) nought)
  | inr f ↦ digit_fits limit value byte n more fits (omega (arith, fits, within)) low e f.1
]

-- where no digit may follow, no number within the limit goes on so
pub counted_none : (limit : ℕ) (value : Option ℕ) (byte n : ℕ) (more : List ℕ) → limit < 2 ^ 32 → IsWithin limit value → n ≤ limit → decimal n ≡ digits_of value ++ byte ∷ more → counted limit value byte ≡ None → ⊥
counted_none limit None byte n more fits within low e h = first_fits limit byte n more fits low e h
counted_none limit (Some value) byte n more fits within low e h = more_none limit value byte n more fits within low e h

pub counted_digit : (limit : ℕ) (value : Option ℕ) (byte more : ℕ) → counted limit value byte ≡ Some more → 48 ≤ byte
counted_digit limit None byte more h = (one_more limit 0 byte more h).low
counted_digit limit (Some value) byte more h = elim (cond_split (eqb value 0) None (with_digit limit value byte) (Some more) h) [
  | inl e ↦ let no_number : None ≡ Some more = e.1 in absurd (cc)
  | inr e ↦ (one_more limit value byte more e.1).low
]
