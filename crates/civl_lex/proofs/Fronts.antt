-- The token that is next: what `front_token` answers is the longest token that begins there, or there is none.
use Rattle.std.proofs.Common.{◌≡◌, ℕ, ◌<◌, ◌≤◌, suc, zero, Bool, true, false, cond, not, ◌⊎◌, inl, inr, List, [], ◌∷◌, ◌++◌, length, take, drop, refl, sym, ap, subst, ◌∙◌, arith, ⊎_elim, Option, Some, None}
use Rattle.std.specs.Prelude.{IsTrue}
use Rattle.std.specs.Char.{is_ascii_digit}
use Rattle.std.specs.Fmt.{decimal}
use Rattle.std.specs.List.{list_all, prefix_len, take_while}
use Rattle.std.specs.Option.{option_map}
use Rattle.std.proofs.lemmas.Bool.{and_parts, and_from, cond-true, cond-false, cond_both, not-true, not_from_false, false≢true, or_left}
use Rattle.std.proofs.lemmas.List.{take_all, append-nil, take-append-drop, take_at, length-take, length-append}
use Rattle.std.proofs.lemmas.List.Sums.{take_while-cons}
use Rattle.std.proofs.lemmas.List.Folds.{length-prefix_len}
use Rattle.civl_tree.specs.Token.{Token, Named, Reserved, Sign, Number, text_of, IsToken, begins_name, is_name_byte, is_identifier, is_reserved, is_sign}
use Rattle.civl_lex.specs.Lexical.{opens_digit, MayEnd, IsAtFront, IsLongest, NoneAtFront}
use Rattle.civl_lex.specs.inner.Front.{word_of, number_of, sign_of, front_token}
use Rattle.civl_lex.proofs.Runs.{first_passes, run_all, run_stops, run_covers, run_is}
use Rattle.civl_lex.proofs.Numbers.{number_of-parts, number_of-decimal, decimal-number_of, decimal_digits}
use Rattle.civl_lex.proofs.Spellings.{HasShape, has_shape, begins_sign, sign_parts, name_no_digit, digit_no_name}

-- ---- the text of a token, read again

pub front_word : (byte : ℕ) (bytes : List ℕ) → begins_name byte ≡ true → front_token (byte ∷ bytes) ≡ Some (word_of (take_while is_name_byte (byte ∷ bytes)))
front_word byte bytes h = cond-true (begins_name byte) _ _ h

pub front_number : (byte : ℕ) (bytes : List ℕ) → is_ascii_digit byte ≡ true → front_token (byte ∷ bytes) ≡ option_map Number (number_of (take_while is_ascii_digit (byte ∷ bytes)))
front_number byte bytes h = cond-false (begins_name byte) _ _ (digit_no_name byte h) ∙ cond-true (is_ascii_digit byte) _ _ h

pub front_sign : (byte : ℕ) (bytes : List ℕ) → begins_name byte ≡ false → is_ascii_digit byte ≡ false → front_token (byte ∷ bytes) ≡ sign_of (byte ∷ bytes)
front_sign byte bytes h k = cond-false (begins_name byte) _ _ h ∙ cond-false (is_ascii_digit byte) _ _ k

whole_run : (p : ℕ → Bool) (text : List ℕ) → list_all p text ≡ true → take_while p text ≡ text
whole_run p text h =
    let count : prefix_len p text ≡ length text = ap (prefix_len p) (sym (append-nil text)) ∙ run_is p text [] h refl in
    take_all (prefix_len p text) text (omega arith)

own_at : (token : Token) (text : List ℕ) → text ≡ text_of token → IsToken token → HasShape token text → front_token text ≡ Some token
own_at token [] e is h = absurd h
own_at (Named bytes) (byte ∷ text) e is h =
    front_word byte text h.0 ∙ ap (λ w. Some (word_of w)) (whole_run is_name_byte (byte ∷ text) h.1 ∙ e)
    ∙ ap Some (cond-false (is_reserved bytes) (Reserved bytes) (Named bytes) (not-true _ (and_parts (is_identifier bytes) (not (is_reserved bytes)) is).1))
own_at (Reserved bytes) (byte ∷ text) e is h =
    front_word byte text h.0 ∙ ap (λ w. Some (word_of w)) (whole_run is_name_byte (byte ∷ text) h.1 ∙ e)
    ∙ ap Some (cond-true (is_reserved bytes) (Reserved bytes) (Named bytes) is)
own_at (Number value) (byte ∷ text) e is h =
    front_number byte text h.0 ∙ ap (λ w. option_map Number (number_of w)) (whole_run is_ascii_digit (byte ∷ text) h.1 ∙ e) ∙ ap (option_map Number) (number_of-decimal value is)
own_at (Sign bytes) (byte ∷ text) e is h =
    let parts = sign_parts byte h.0 in
    let short : take 2 (byte ∷ text) ≡ bytes = take_all 2 (byte ∷ text) (omega (arith, h.1)) ∙ e in
    front_sign byte text parts.0 parts.1 ∙ cond-true (is_sign (take 2 (byte ∷ text))) _ _ (ap is_sign short ∙ is) ∙ ap (λ w. Some (Sign w)) short

-- each token is read from its own text
pub own_text : (token : Token) → IsToken token → front_token (text_of token) ≡ Some token
own_text token is = own_at token (text_of token) refl is (has_shape token is)

-- no two tokens have one text
pub same_text : (a b : Token) → IsToken a → IsToken b → text_of a ≡ text_of b → a ≡ b
same_text a b is_a is_b e = let same : Some a ≡ Some b = sym (own_text a is_a) ∙ ap front_token e ∙ own_text b is_b in cc

-- the longest token is one
pub same_longest : (a b : Token) (bytes : List ℕ) → IsLongest a bytes → IsLongest b bytes → a ≡ b
same_longest a b bytes h k =
    let lengths : length (text_of a) ≡ length (text_of b) = omega (arith, h.longest b k.begins, k.longest a h.begins) in
    same_text a b h.begins.is_token k.begins.is_token
    (sym (take_at (text_of a) h.begins.rest (length (text_of b)) lengths) ∙ ap (take (length (text_of b))) (sym h.begins.parts ∙ k.begins.parts) ∙ take_at (text_of b) k.begins.rest (length (text_of b)) refl)

-- ---- what begins at the front

FirstByte : Token → ℕ → Type 0
FirstByte (Named bytes) byte = begins_name byte ≡ true
FirstByte (Reserved bytes) byte = begins_name byte ≡ true
FirstByte (Number value) byte = is_ascii_digit byte ≡ true
FirstByte (Sign bytes) byte = begins_sign byte ≡ true

first_at : (token : Token) (text rest : List ℕ) (byte : ℕ) (bytes : List ℕ) → HasShape token text → byte ∷ bytes ≡ text ++ rest → FirstByte token byte
unfolding FirstByte
first_at token [] rest byte bytes h e = absurd h
first_at (Named own) (a ∷ text) rest byte bytes h e = let same : byte ≡ a = cc in ap begins_name same ∙ h.0
first_at (Reserved own) (a ∷ text) rest byte bytes h e = let same : byte ≡ a = cc in ap begins_name same ∙ h.0
first_at (Number value) (a ∷ text) rest byte bytes h e = let same : byte ≡ a = cc in ap is_ascii_digit same ∙ h.0
first_at (Sign own) (a ∷ text) rest byte bytes h e = let same : byte ≡ a = cc in ap begins_sign same ∙ h.0

first_byte : (token : Token) (byte : ℕ) (bytes : List ℕ) → IsAtFront token (byte ∷ bytes) → FirstByte token byte
first_byte token byte bytes h = first_at token (text_of token) h.rest byte bytes (has_shape token h.is_token) h.parts

pub none_at_end : (token : Token) (text rest : List ℕ) → HasShape token text → [] ≡ text ++ rest → ⊥
none_at_end token [] rest h e = absurd h
none_at_end token (a ∷ text) rest h e = cc

names_at : (own text : List ℕ) → HasShape (Named own) text → list_all is_name_byte text ≡ true
names_at own [] h = absurd h
names_at own (byte ∷ text) h = h.1

reserved_at : (own text : List ℕ) → HasShape (Reserved own) text → list_all is_name_byte text ≡ true
reserved_at own [] h = absurd h
reserved_at own (byte ∷ text) h = h.1

sign_at : (own text : List ℕ) → HasShape (Sign own) text → (0 < length text) × (length text ≤ 2)
sign_at own [] h = absurd h
sign_at own (byte ∷ text) h = (omega arith, omega (arith, h.1))

covered : (p : ℕ → Bool) (token : Token) (bytes : List ℕ) → IsAtFront token bytes → list_all p (text_of token) ≡ true → length (text_of token) ≤ prefix_len p bytes
covered p token bytes h all = subst (λ (x : List ℕ). length (text_of token) ≤ prefix_len p x) (sym h.parts) (run_covers p (text_of token) h.rest all)

-- ---- names and reserved words

text_of-word_of : (text : List ℕ) → text_of (word_of text) ≡ text
text_of-word_of text = cond_both (is_reserved text) (Reserved text) (Named text) (λ t. text_of t ≡ text) (λ h. refl) (λ h. refl)

word_is : (text : List ℕ) → is_identifier text ≡ true → IsToken (word_of text)
word_is text h = cond_both (is_reserved text) (Reserved text) (Named text) IsToken (λ k. k) (λ k. and_from (is_identifier text) (not (is_reserved text)) h (not_from_false (is_reserved text) k))

word_may_end : (text rest : List ℕ) → MayEnd (word_of text) rest
word_may_end text rest = cond_both (is_reserved text) (Reserved text) (Named text) (λ t. MayEnd t rest) (λ h. tt) (λ h. tt)

word_bound : (token : Token) (byte : ℕ) (bytes : List ℕ) → begins_name byte ≡ true → IsAtFront token (byte ∷ bytes) → length (text_of token) ≤ prefix_len is_name_byte (byte ∷ bytes)
unfolding FirstByte
word_bound (Named own) byte bytes h b = covered is_name_byte (Named own) (byte ∷ bytes) b (names_at own own (has_shape (Named own) b.is_token))
word_bound (Reserved own) byte bytes h b = covered is_name_byte (Reserved own) (byte ∷ bytes) b (reserved_at own own (has_shape (Reserved own) b.is_token))
word_bound (Number value) byte bytes h b = absurd (false≢true (sym (name_no_digit byte h) ∙ first_byte (Number value) byte bytes b))
word_bound (Sign own) byte bytes h b = absurd (false≢true (sym (sign_parts byte (first_byte (Sign own) byte bytes b)).0 ∙ h))

word_run : (byte : ℕ) (bytes : List ℕ) → begins_name byte ≡ true → is_identifier (take_while is_name_byte (byte ∷ bytes)) ≡ true
word_run byte bytes h =
    let run : take_while is_name_byte (byte ∷ bytes) ≡ byte ∷ take_while is_name_byte bytes = take_while-cons is_name_byte byte bytes ∙ cond-true (is_name_byte byte) _ _ (or_left (begins_name byte) (is_ascii_digit byte) h) in
    ap is_identifier run ∙ and_from (begins_name byte) (list_all is_name_byte (take_while is_name_byte bytes)) h (run_all is_name_byte bytes)

word_right : (byte : ℕ) (bytes : List ℕ) → begins_name byte ≡ true → IsLongest (word_of (take_while is_name_byte (byte ∷ bytes))) (byte ∷ bytes)
word_right byte bytes h =
    let text = take_while is_name_byte (byte ∷ bytes) in
    let rest = drop (prefix_len is_name_byte (byte ∷ bytes)) (byte ∷ bytes) in
    record {
      begins = record {
        is_token = word_is text (word_run byte bytes h);
        rest = rest;
        parts = sym (ap (λ t. t ++ rest) (text_of-word_of text) ∙ take-append-drop (prefix_len is_name_byte (byte ∷ bytes)) (byte ∷ bytes));
        may_end = word_may_end text rest;
      };
      longest = λ other b. omega (arith, word_bound other byte bytes h b, ap length (text_of-word_of text), length-prefix_len is_name_byte (byte ∷ bytes));
    }

-- ---- numbers

opens_digit_is : (bytes : List ℕ) → first_passes is_ascii_digit bytes ≡ false → IsTrue (not (opens_digit bytes))
opens_digit_is [] h = refl
opens_digit_is (byte ∷ bytes) h = not_from_false (is_ascii_digit byte) h

no_digit_is : (bytes : List ℕ) → IsTrue (not (opens_digit bytes)) → first_passes is_ascii_digit bytes ≡ false
no_digit_is [] h = refl
no_digit_is (byte ∷ bytes) h = not-true (is_ascii_digit byte) h

number_bound : (token : Token) (byte : ℕ) (bytes : List ℕ) → is_ascii_digit byte ≡ true → IsAtFront token (byte ∷ bytes) → length (text_of token) ≤ prefix_len is_ascii_digit (byte ∷ bytes)
unfolding FirstByte
number_bound (Named own) byte bytes h b = absurd (false≢true (sym (digit_no_name byte h) ∙ first_byte (Named own) byte bytes b))
number_bound (Reserved own) byte bytes h b = absurd (false≢true (sym (digit_no_name byte h) ∙ first_byte (Reserved own) byte bytes b))
number_bound (Number value) byte bytes h b = covered is_ascii_digit (Number value) (byte ∷ bytes) b (decimal_digits value b.is_token)
number_bound (Sign own) byte bytes h b = absurd (false≢true (sym (sign_parts byte (first_byte (Sign own) byte bytes b)).1 ∙ h))

number_run : (byte : ℕ) (bytes : List ℕ) → is_ascii_digit byte ≡ true → 0 < length (take_while is_ascii_digit (byte ∷ bytes))
number_run byte bytes h =
    let run : take_while is_ascii_digit (byte ∷ bytes) ≡ byte ∷ take_while is_ascii_digit bytes = take_while-cons is_ascii_digit byte bytes ∙ cond-true (is_ascii_digit byte) _ _ h in
    rw run (omega arith)

number_right : (byte : ℕ) (bytes : List ℕ) (value : ℕ) → is_ascii_digit byte ≡ true → number_of (take_while is_ascii_digit (byte ∷ bytes)) ≡ Some value → IsLongest (Number value) (byte ∷ bytes)
number_right byte bytes value h e =
    let text = take_while is_ascii_digit (byte ∷ bytes) in
    let rest = drop (prefix_len is_ascii_digit (byte ∷ bytes)) (byte ∷ bytes) in
    let parts = number_of-parts text value e in
    let own : decimal value ≡ text = decimal-number_of text value (run_all is_ascii_digit (byte ∷ bytes)) (number_run byte bytes h) e in
    record {
      begins = record {
        is_token = omega (arith, parts.1, parts.2);
        rest = rest;
        parts = sym (ap (λ t. t ++ rest) own ∙ take-append-drop (prefix_len is_ascii_digit (byte ∷ bytes)) (byte ∷ bytes));
        may_end = opens_digit_is rest (run_stops is_ascii_digit (byte ∷ bytes));
      };
      longest = λ other b. omega (arith, number_bound other byte bytes h b, ap length own, length-prefix_len is_ascii_digit (byte ∷ bytes));
    }

-- a number that begins there is the whole run
number_takes : (value : ℕ) (bytes : List ℕ) → IsAtFront (Number value) bytes → take_while is_ascii_digit bytes ≡ decimal value
number_takes value bytes b =
    let count = run_is is_ascii_digit (decimal value) b.rest (decimal_digits value b.is_token) (no_digit_is b.rest b.may_end) in
    ap (take_while is_ascii_digit) b.parts ∙ take_at (decimal value) b.rest (prefix_len is_ascii_digit (decimal value ++ b.rest)) (sym count)

no_number : (token : Token) (byte : ℕ) (bytes : List ℕ) → is_ascii_digit byte ≡ true → number_of (take_while is_ascii_digit (byte ∷ bytes)) ≡ None → IsAtFront token (byte ∷ bytes) → ⊥
unfolding FirstByte
no_number (Named own) byte bytes h e b = false≢true (sym (digit_no_name byte h) ∙ first_byte (Named own) byte bytes b)
no_number (Reserved own) byte bytes h e b = false≢true (sym (digit_no_name byte h) ∙ first_byte (Reserved own) byte bytes b)
no_number (Sign own) byte bytes h e b = false≢true (sym (sign_parts byte (first_byte (Sign own) byte bytes b)).1 ∙ h)
no_number (Number value) byte bytes h e b =
    let same : None ≡ Some value = sym e ∙ ap number_of (number_takes value (byte ∷ bytes) b) ∙ number_of-decimal value b.is_token in cc

-- ---- signs

-- a sign is next, and of how many bytes
sign_begins : (bytes : List ℕ) (n : ℕ) → is_sign (take n bytes) ≡ true → IsAtFront (Sign (take n bytes)) bytes
sign_begins bytes n h = record { is_token = h; rest = drop n bytes; parts = sym (take-append-drop n bytes); may_end = tt }

-- what begins there is a sign of one byte or two
sign_next : (token : Token) (byte : ℕ) (bytes : List ℕ) → begins_name byte ≡ false → is_ascii_digit byte ≡ false → IsAtFront token (byte ∷ bytes)
    → (is_sign (take (length (text_of token)) (byte ∷ bytes)) ≡ true) × (0 < length (text_of token)) × (length (text_of token) ≤ 2)
unfolding FirstByte
sign_next (Named own) byte bytes h k b = absurd (false≢true (sym h ∙ first_byte (Named own) byte bytes b))
sign_next (Reserved own) byte bytes h k b = absurd (false≢true (sym h ∙ first_byte (Reserved own) byte bytes b))
sign_next (Number value) byte bytes h k b = absurd (false≢true (sym k ∙ first_byte (Number value) byte bytes b))
sign_next (Sign own) byte bytes h k b =
    let bounds = sign_at own own (has_shape (Sign own) b.is_token) in
    (ap is_sign (ap (take (length own)) b.parts ∙ take_at own b.rest (length own) refl) ∙ b.is_token, bounds.0, bounds.1)

one_or_two : (n : ℕ) → 0 < n → n ≤ 2 → (n ≡ 1) ⊎ (n ≡ 2)
one_or_two zero some few = absurd (omega arith)
one_or_two (suc zero) some few = inl refl
one_or_two (suc (suc n)) some few = inr (omega arith)

pub text_within : (token : Token) (bytes : List ℕ) → IsAtFront token bytes → length (text_of token) ≤ length bytes
text_within token bytes b = omega (arith, ap length b.parts, length-append (text_of token) b.rest)

two_longest : (byte : ℕ) (bytes : List ℕ) → begins_name byte ≡ false → is_ascii_digit byte ≡ false → is_sign (take 2 (byte ∷ bytes)) ≡ true → IsLongest (Sign (take 2 (byte ∷ bytes))) (byte ∷ bytes)
two_longest byte bytes h k two = record {
  begins = sign_begins (byte ∷ bytes) 2 two;
  longest = λ other b. omega (arith, (sign_next other byte bytes h k b).2, text_within other (byte ∷ bytes) b, length-take 2 (byte ∷ bytes));
}

not_two : (token : Token) (byte : ℕ) (bytes : List ℕ) → begins_name byte ≡ false → is_ascii_digit byte ≡ false → is_sign (take 2 (byte ∷ bytes)) ≡ false → IsAtFront token (byte ∷ bytes) → length (text_of token) ≡ 1
not_two token byte bytes h k two b =
    let next = sign_next token byte bytes h k b in
    ⊎_elim (λ e. e) (λ e. absurd (false≢true (sym two ∙ sym (ap (λ n. is_sign (take n (byte ∷ bytes))) e) ∙ next.0))) (one_or_two (length (text_of token)) next.1 next.2)

one_longest : (byte : ℕ) (bytes : List ℕ) → begins_name byte ≡ false → is_ascii_digit byte ≡ false → is_sign (take 2 (byte ∷ bytes)) ≡ false → is_sign (take 1 (byte ∷ bytes)) ≡ true → IsLongest (Sign (take 1 (byte ∷ bytes))) (byte ∷ bytes)
one_longest byte bytes h k two one = record {
  begins = sign_begins (byte ∷ bytes) 1 one;
  longest = λ other b. omega (arith, not_two other byte bytes h k two b);
}

no_sign : (token : Token) (byte : ℕ) (bytes : List ℕ) → begins_name byte ≡ false → is_ascii_digit byte ≡ false → is_sign (take 2 (byte ∷ bytes)) ≡ false → is_sign (take 1 (byte ∷ bytes)) ≡ false → IsAtFront token (byte ∷ bytes) → ⊥
no_sign token byte bytes h k two one b =
    false≢true (sym one ∙ sym (ap (λ n. is_sign (take n (byte ∷ bytes))) (not_two token byte bytes h k two b)) ∙ (sign_next token byte bytes h k b).0)

-- ---- all tokens

-- the token is the longest that begins there, and without one none begins there
abbrev pub IsFront : List ℕ → Option Token → Type 0
IsFront bytes None = NoneAtFront bytes
IsFront bytes (Some token) = IsLongest token bytes

number_front : (byte : ℕ) (bytes : List ℕ) (o : Option ℕ) → is_ascii_digit byte ≡ true → number_of (take_while is_ascii_digit (byte ∷ bytes)) ≡ o → IsFront (byte ∷ bytes) (option_map Number o)
number_front byte bytes (Some value) h e = number_right byte bytes value h e
number_front byte bytes None h e = λ token b. no_number token byte bytes h e b

sign_front : (byte : ℕ) (bytes : List ℕ) (one two : Bool) → begins_name byte ≡ false → is_ascii_digit byte ≡ false → is_sign (take 2 (byte ∷ bytes)) ≡ two → is_sign (take 1 (byte ∷ bytes)) ≡ one
    → IsFront (byte ∷ bytes) (cond two (Some (Sign (take 2 (byte ∷ bytes)))) (cond one (Some (Sign (take 1 (byte ∷ bytes)))) None))
sign_front byte bytes one true h k e d = two_longest byte bytes h k e
sign_front byte bytes true false h k e d = one_longest byte bytes h k e d
sign_front byte bytes false false h k e d = λ token b. no_sign token byte bytes h k e d b

front_at : (byte : ℕ) (bytes : List ℕ) (name digit : Bool) → begins_name byte ≡ name → is_ascii_digit byte ≡ digit
    → IsFront (byte ∷ bytes) (cond name (Some (word_of (take_while is_name_byte (byte ∷ bytes)))) (cond digit (option_map Number (number_of (take_while is_ascii_digit (byte ∷ bytes)))) (sign_of (byte ∷ bytes))))
front_at byte bytes true digit h k = word_right byte bytes h
front_at byte bytes false true h k = number_front byte bytes _ k refl
front_at byte bytes false false h k = sign_front byte bytes _ _ h k refl refl

pub front_right : (bytes : List ℕ) → IsFront bytes (front_token bytes)
front_right [] = λ token b. none_at_end token (text_of token) b.rest (has_shape token b.is_token) b.parts
front_right (byte ∷ bytes) = front_at byte bytes (begins_name byte) (is_ascii_digit byte) refl refl
