-- The texts of tokens: what they begin with, and that each text is one token's.
use Rattle.std.proofs.Common.{◌≡◌, ℕ, ◌<◌, ◌≤◌, Bool, true, false, not, ◌&&◌, ◌⊎◌, inl, inr, List, [], ◌∷◌, length, refl, ap, ◌∙◌, arith, leb, ⊎_elim}
use Rattle.std.specs.Prelude.{nat_eq}
use Rattle.std.specs.Char.{is_ascii_digit, is_ascii_alphabetic}
use Rattle.std.specs.Fmt.{decimal}
use Rattle.std.specs.List.{list_all, list_any}
use Rattle.std.specs.Str.{bytes_eq}
use Rattle.std.proofs.lemmas.Bool.{and_parts, or_cases, not-true, eqb-true, leb-true, and_from, and_left, and_right, or_from, or_left, lt-leb, ne_eqb}
use Rattle.std.proofs.lemmas.Slice.Eq.{bytes_eq-Decides}
use Rattle.civl_tree.specs.Token.{Token, Named, Reserved, Sign, Number, text_of, IsToken, begins_name, is_name_byte, is_identifier, is_reserved, is_sign, reserved_words, signs}
use Rattle.civl_lex.specs.Gap.{is_blank}
use Rattle.civl_lex.proofs.Numbers.{decimal_digits, decimal_some}

-- ---- tables

-- what holds of each text of a table holds of a text that is among them
pub among : (q : List ℕ → Bool) (text : List ℕ) (table : List (List ℕ)) → list_all q table ≡ true → list_any (bytes_eq text) table ≡ true → q text ≡ true
among q text [] all any = absurd cc
among q text (entry ∷ table) all any =
    let parts = and_parts (q entry) (list_all q table) all in
    ⊎_elim (λ h. ap q ((bytes_eq-Decides text entry).0 h) ∙ parts.0) (λ h. among q text table parts.1 h) (or_cases (bytes_eq text entry) (list_any (bytes_eq text) table) any)

pub reserved_is_identifier : (text : List ℕ) → is_reserved text ≡ true → is_identifier text ≡ true
reserved_is_identifier text h = among is_identifier text reserved_words refl h

-- ---- first bytes

-- a name, a digit, or what else a sign begins with
abbrev pub begins_sign : ℕ → Bool
begins_sign byte = not (begins_name byte) && not (is_ascii_digit byte) && not (is_blank byte) && not (nat_eq byte 47)

abbrev pub is_sign_shape : List ℕ → Bool
is_sign_shape [] = false
is_sign_shape (byte ∷ bytes) = begins_sign byte && leb (length bytes) 1

pub sign_shape : (text : List ℕ) → is_sign text ≡ true → is_sign_shape text ≡ true
sign_shape text h = among is_sign_shape text signs refl h

out_range : (low high byte : ℕ) → (byte < low) ⊎ (high < byte) → (leb low byte && leb byte high) ≡ false
out_range low high byte (inl h) = and_left _ _ (lt-leb low byte h)
out_range low high byte (inr h) = and_right _ _ (lt-leb byte high h)

name_low : (byte : ℕ) → begins_name byte ≡ true → 65 ≤ byte
name_low byte h =
    ⊎_elim
    (λ (letter : is_ascii_alphabetic byte ≡ true). ⊎_elim
    (λ (upper : (leb 65 byte && leb byte 90) ≡ true). leb-true 65 byte (and_parts _ _ upper).0)
    (λ (lower : (leb 97 byte && leb byte 122) ≡ true). let low : 97 ≤ byte = leb-true 97 byte (and_parts _ _ lower).0 in omega arith)
    (or_cases _ _ letter))
    (λ (line : nat_eq byte 95 ≡ true). let same : byte ≡ 95 = eqb-true byte 95 line in omega arith)
    (or_cases _ _ h)

digit_range : (byte : ℕ) → is_ascii_digit byte ≡ true → (48 ≤ byte) × (byte ≤ 57)
digit_range byte h = let parts = and_parts (leb 48 byte) (leb byte 57) h in (leb-true 48 byte parts.0, leb-true byte 57 parts.1)

other_byte : (byte k : ℕ) → (byte < k) ⊎ (k < byte) → nat_eq byte k ≡ false
other_byte byte k (inl h) = ne_eqb byte k (λ e. omega arith)
other_byte byte k (inr h) = ne_eqb byte k (λ e. omega arith)

high_is_no_blank : (byte : ℕ) → 32 < byte → is_blank byte ≡ false
high_is_no_blank byte h = rw (other_byte byte 9 (inr (omega arith)), other_byte byte 10 (inr (omega arith)), other_byte byte 13 (inr (omega arith)), other_byte byte 32 (inr h)) refl

pub name_no_digit : (byte : ℕ) → begins_name byte ≡ true → is_ascii_digit byte ≡ false
name_no_digit byte h = let low = name_low byte h in out_range 48 57 byte (inr (omega arith))

pub outside_name : (byte : ℕ) → begins_name byte ≡ true → (is_blank byte ≡ false) × (nat_eq byte 47 ≡ false)
outside_name byte h = let low = name_low byte h in (high_is_no_blank byte (omega arith), other_byte byte 47 (inr (omega arith)))

pub digit_no_name : (byte : ℕ) → is_ascii_digit byte ≡ true → begins_name byte ≡ false
digit_no_name byte h =
    let range = digit_range byte h in
    or_from _ _ (or_from _ _ (out_range 65 90 byte (inl (omega (arith, range.1)))) (out_range 97 122 byte (inl (omega (arith, range.1))))) (other_byte byte 95 (inl (omega (arith, range.1))))

pub outside_digit : (byte : ℕ) → is_ascii_digit byte ≡ true → (is_blank byte ≡ false) × (nat_eq byte 47 ≡ false)
outside_digit byte h = let range = digit_range byte h in (high_is_no_blank byte (omega (arith, range.0)), other_byte byte 47 (inr (omega (arith, range.0))))

-- what a token's text begins with, and how it goes on
abbrev pub HasShape : Token → List ℕ → Type 0
HasShape token [] = ⊥
HasShape (Named bytes) (byte ∷ text) = (begins_name byte ≡ true) × (list_all is_name_byte (byte ∷ text) ≡ true)
HasShape (Reserved bytes) (byte ∷ text) = (begins_name byte ≡ true) × (list_all is_name_byte (byte ∷ text) ≡ true)
HasShape (Number value) (byte ∷ text) = (is_ascii_digit byte ≡ true) × (list_all is_ascii_digit (byte ∷ text) ≡ true)
HasShape (Sign bytes) (byte ∷ text) = (begins_sign byte ≡ true) × (length text ≤ 1)

word_all : (byte : ℕ) (text : List ℕ) → is_identifier (byte ∷ text) ≡ true → (begins_name byte ≡ true) × (list_all is_name_byte (byte ∷ text) ≡ true)
word_all byte text h =
    let parts = and_parts (begins_name byte) (list_all is_name_byte text) h in
    (parts.0, and_from (is_name_byte byte) (list_all is_name_byte text) (or_left (begins_name byte) (is_ascii_digit byte) parts.0) parts.1)

named_shape : (own text : List ℕ) → is_identifier text ≡ true → HasShape (Named own) text
named_shape own [] h = absurd cc
named_shape own (byte ∷ text) h = word_all byte text h

reserved_shape : (own text : List ℕ) → is_identifier text ≡ true → HasShape (Reserved own) text
reserved_shape own [] h = absurd cc
reserved_shape own (byte ∷ text) h = word_all byte text h

sign_has_shape : (own text : List ℕ) → is_sign_shape text ≡ true → HasShape (Sign own) text
sign_has_shape own [] h = absurd cc
sign_has_shape own (byte ∷ text) h = let parts = and_parts (begins_sign byte) (leb (length text) 1) h in (parts.0, leb-true (length text) 1 parts.1)

number_shape : (value : ℕ) (text : List ℕ) → 0 < length text → list_all is_ascii_digit text ≡ true → HasShape (Number value) text
number_shape value [] some h = absurd (omega arith)
number_shape value (byte ∷ text) some h = ((and_parts (is_ascii_digit byte) (list_all is_ascii_digit text) h).0, h)

pub has_shape : (token : Token) → IsToken token → HasShape token (text_of token)
has_shape (Named bytes) h = named_shape bytes bytes (and_parts (is_identifier bytes) (not (is_reserved bytes)) h).0
has_shape (Reserved bytes) h = reserved_shape bytes bytes (reserved_is_identifier bytes h)
has_shape (Sign bytes) h = sign_has_shape bytes bytes (sign_shape bytes h)
has_shape (Number value) h = number_shape value (decimal value) (decimal_some value h) (decimal_digits value h)

pub sign_parts : (byte : ℕ) → begins_sign byte ≡ true → (begins_name byte ≡ false) × (is_ascii_digit byte ≡ false) × (is_blank byte ≡ false) × (nat_eq byte 47 ≡ false)
sign_parts byte h =
    let one = and_parts _ _ h in
    let two = and_parts _ _ one.0 in
    let three = and_parts _ _ two.0 in
    (not-true _ three.0, not-true _ three.1, not-true _ two.1, not-true _ one.1)

some_at : (token : Token) (text : List ℕ) → HasShape token text → 0 < length text
some_at token [] h = absurd h
some_at token (byte ∷ text) h = omega arith

-- no token's text is empty
pub text_some : (token : Token) → IsToken token → 0 < length (text_of token)
text_some token is = some_at token (text_of token) (has_shape token is)
