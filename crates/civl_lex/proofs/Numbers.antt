-- Runs of digits, and the numbers among them.
use Rattle.std.proofs.Common.{◌≡◌, ℕ, ◌+◌, ◌*◌, ◌-◌, ◌^◌, ◌<◌, ◌≤◌, suc, Bool, true, false, cond, ◌&&◌, ◌||◌, not, List, length, take, Some, None, refl, sym, ap, ◌∙◌, arith, rules, get_or, ltb, eqb, leb}
use Rattle.std.specs.List.{list_all}
use Rattle.std.specs.Char.{is_ascii_digit, digit_value}
use Rattle.std.specs.Fmt.{decimal}
use Rattle.std.specs.Str.Parse.{digits_value}
use Rattle.std.proofs.lemmas.Bool.{true≢false, and_parts, leb-true, and_from, lt-ltb, le-ltb, ltb-true, eqb-true, eq-eqb, or_right, cases_lt}
use Rattle.std.proofs.Common.{⊎_elim, ◌⊎◌, inl, inr, zero}
use Rattle.std.proofs.lemmas.Fmt.{decimal_digit, decimal_nonempty, first_decimal, digits_decimal, digits_value-decimal, decimal-digits_value}
use Rattle.std.proofs.lemmas.Int.Digits.{digits_value_more}
use Rattle.std.proofs.lemmas.Str.Parse.{IsNumeralModel, IsDigitsTest, numerals_by_value, digits_value-take-le}
use Rattle.std.proofs.lemmas.List.Sums.{AllPass-from_list_all}
use Rattle.civl_lex.specs.inner.Front.{number_of}

abbrev pub AreDigits : List ℕ → Type 0
AreDigits text = list_all is_ascii_digit text ≡ true

tests : IsDigitsTest AreDigits
tests = search rules

pub own : IsNumeralModel AreDigits (digits_value 10)
own = numerals_by_value AreDigits tests

-- ---- which runs are numbers

-- no digit stands behind a leading nought
abbrev pub IsPlain : List ℕ → Type 0
IsPlain text = get_or text 0 0 ≡ 48 → length text ≤ 1

is_plain_at : (text : List ℕ) (b d : Bool) → ltb 1 (length text) ≡ b → eqb (get_or text 0 0) 48 ≡ d → IsPlain text → (b && d) ≡ false
is_plain_at text false d long nought plain = refl
is_plain_at text true false long nought plain = refl
is_plain_at text true true long nought plain = absurd (omega (arith, ltb-true 1 (length text) long, plain (eqb-true _ _ nought)))

is_plain : (text : List ℕ) → IsPlain text → (ltb 1 (length text) && eqb (get_or text 0 0) 48) ≡ false
is_plain text plain = is_plain_at text _ _ refl refl plain

pub number_of-some : (text : List ℕ) → IsPlain text → digits_value 10 text < 2 ^ 32 → number_of text ≡ Some (digits_value 10 text)
number_of-some text plain fits = rw (is_plain text plain, lt-ltb (digits_value 10 text) (2 ^ 32) fits) refl

pub number_of-large : (text : List ℕ) → 2 ^ 32 ≤ digits_value 10 text → number_of text ≡ None
number_of-large text large = rw (le-ltb (digits_value 10 text) (2 ^ 32) large, or_right (ltb 1 (length text) && eqb (get_or text 0 0) 48) true refl) refl

plain_at : (text : List ℕ) → (ltb 1 (length text) && eqb (get_or text 0 0) 48) ≡ false → IsPlain text
plain_at text nought first = ⊎_elim (λ h. absurd (true≢false (sym (and_from _ _ (lt-ltb 1 (length text) h) (eq-eqb _ _ first)) ∙ nought))) (λ h. h) (cases_lt 1 (length text))

parts_at : (text : List ℕ) (value : ℕ) (b d : Bool) → (ltb 1 (length text) && eqb (get_or text 0 0) 48) ≡ b → ltb (digits_value 10 text) (2 ^ 32) ≡ d
    → cond (b || not d) None (Some (digits_value 10 text)) ≡ Some value → IsPlain text × (digits_value 10 text < 2 ^ 32) × (value ≡ digits_value 10 text)
parts_at text value false true nought fits h = (λ first. plain_at text nought first, ltb-true _ _ fits, cc)
parts_at text value false false nought fits h = absurd cc
parts_at text value true d nought fits h = absurd cc

pub number_of-parts : (text : List ℕ) (value : ℕ) → number_of text ≡ Some value → IsPlain text × (digits_value 10 text < 2 ^ 32) × (value ≡ digits_value 10 text)
number_of-parts text value h = parts_at text value _ _ refl refl h

-- ---- decimal

pub decimal_digits : (n : ℕ) → n < 2 ^ 32 → AreDigits (decimal n)
decimal_digits n h = digits_decimal own n (omega arith)

pub decimal_some : (n : ℕ) → n < 2 ^ 32 → 0 < length (decimal n)
decimal_some n h = decimal_nonempty n (omega arith)

small : (n : ℕ) → (n ≡ 0) ⊎ (0 < n)
small zero = inl refl
small (suc n) = inr (omega arith)

plain_decimal : (n : ℕ) → n < 2 ^ 32 → IsPlain (decimal n)
plain_decimal n h nought = ⊎_elim (λ none. rw (none, decimal_digit 0 (omega arith)) (omega arith)) (λ some. absurd (omega (arith, nought, first_decimal n some (omega arith)))) (small n)

pub number_of-decimal : (n : ℕ) → n < 2 ^ 32 → number_of (decimal n) ≡ Some n
number_of-decimal n h = let value : digits_value 10 (decimal n) ≡ n = digits_value-decimal own n (omega arith) in number_of-some (decimal n) (plain_decimal n h) (rw value h) ∙ ap Some value

pub decimal-number_of : (text : List ℕ) (value : ℕ) → AreDigits text → 0 < length text → number_of text ≡ Some value → decimal value ≡ text
decimal-number_of text value digits some h =
    let parts = number_of-parts text value h in
    ap decimal parts.2 ∙ decimal-digits_value own text digits some (λ nought. let short : length text ≤ 1 = parts.0 nought in omega arith) (omega (arith, parts.1))

-- ---- digit after digit

digit_value_is : (byte : ℕ) → is_ascii_digit byte ≡ true → (digit_value byte ≡ byte - 48) × (48 ≤ byte)
digit_value_is byte h =
    let parts = and_parts (leb 48 byte) (leb byte 57) h in
    let low : 48 ≤ byte = leb-true 48 byte parts.0 in
    let high : byte ≤ 57 = leb-true byte 57 parts.1 in
    (rw (le-ltb byte 48 low, lt-ltb byte 58 (omega arith)) refl, low)

-- the value with one digit more, which is at most that of the whole
pub digits_value_next : (text : List ℕ) (i : ℕ) → AreDigits text → i < length text
    → (digits_value 10 (take (i + 1) text) ≡ digits_value 10 (take i text) * 10 + (get_or text i 0 - 48)) × (48 ≤ get_or text i 0) × (digits_value 10 (take (i + 1) text) ≤ digits_value 10 text)
digits_value_next text i digits within =
    let digit = digit_value_is (get_or text i 0) (AllPass-from_list_all is_ascii_digit text digits i 0 within) in
    (digits_value_more 10 text i within ∙ ap (λ d. digits_value 10 (take i text) * 10 + d) digit.0, digit.1, digits_value-take-le 10 text (i + 1) (omega arith))
