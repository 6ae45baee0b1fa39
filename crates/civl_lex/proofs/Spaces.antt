-- Tokens with a blank behind each are read again.
use Rattle.std.proofs.Common.{◌≡◌, ℕ, ◌≤◌, Bool, true, false, not, List, [], ◌∷◌, ◌++◌, length, map, refl, sym, ap, subst, ◌∙◌, arith, Some, append_assoc, inl}
use Rattle.std.specs.Char.{is_ascii_digit}
use Rattle.std.specs.List.{list_all, prefix_len, take_while}
use Rattle.std.specs.Option.{option_map}
use Rattle.std.proofs.lemmas.Bool.{and_parts, or_from, cond-true, cond-false, not-true, not_from_true, false≢true, false_from_ne_true}
use Rattle.std.proofs.lemmas.List.{take_at}
use Rattle.civl_tree.specs.Token.{Token, Named, Reserved, Sign, Number, text_of, IsToken, begins_name, is_name_byte, is_identifier, is_reserved, is_sign, signs}
use Rattle.civl_lex.specs.inner.Front.{word_of, number_of, sign_of, front_token}
use Rattle.civl_lex.specs.Gap.{is_blank}
use Rattle.civl_lex.specs.Laws.{AreSpaced, spaced}
use Rattle.civl_lex.specs.Lexical.{IsLongest}
use Rattle.civl_lex.specs.Text.{HasTokens}
use Rattle.civl_lex.proofs.Fronts.{IsFront, front_right, front_word, front_number, front_sign}
use Rattle.civl_lex.proofs.Gaps.{no_gap, blank_gap}
use Rattle.civl_lex.proofs.Numbers.{number_of-decimal}
use Rattle.civl_lex.proofs.Runs.{run_is}
use Rattle.civl_lex.proofs.Spellings.{HasShape, has_shape, sign_parts, among, outside_name, outside_digit}

-- ---- a blank ends a token

blank_no_name : (byte : ℕ) → is_blank byte ≡ true → begins_name byte ≡ false
blank_no_name byte h = false_from_ne_true (begins_name byte) (λ k. false≢true (sym (outside_name byte k).0 ∙ h))

blank_no_digit : (byte : ℕ) → is_blank byte ≡ true → is_ascii_digit byte ≡ false
blank_no_digit byte h = false_from_ne_true (is_ascii_digit byte) (λ k. false≢true (sym (outside_digit byte k).0 ∙ h))

run_before : (p : ℕ → Bool) (text : List ℕ) (byte : ℕ) (rest : List ℕ) → list_all p text ≡ true → p byte ≡ false → take_while p (text ++ byte ∷ rest) ≡ text
run_before p text byte rest h k = take_at text (byte ∷ rest) (prefix_len p (text ++ byte ∷ rest)) (sym (run_is p text (byte ∷ rest) h k))

-- no sign has a blank as its second byte
abbrev has_no_blank : List ℕ → Bool
has_no_blank text = list_all (λ byte. not (is_blank byte)) text

sign_no_blank : (text : List ℕ) → is_sign text ≡ true → has_no_blank text ≡ true
sign_no_blank text h = among has_no_blank text signs refl h

no_spaced_sign : (a byte : ℕ) → is_blank byte ≡ true → is_sign (a ∷ byte ∷ []) ≡ false
no_spaced_sign a byte h = false_from_ne_true (is_sign (a ∷ byte ∷ []))
    (λ k. let parts = and_parts _ _ (sign_no_blank (a ∷ byte ∷ []) k) in
    false≢true (sym (not_from_true (is_blank byte) h) ∙ (and_parts _ _ parts.1).0))

sign_before : (bytes text : List ℕ) (a byte : ℕ) (rest : List ℕ) → a ∷ text ≡ bytes → length text ≤ 1 → is_blank byte ≡ true → is_sign bytes ≡ true → sign_of ((a ∷ text) ++ byte ∷ rest) ≡ Some (Sign bytes)
sign_before bytes [] a byte rest e few blank is =
    cond-false (is_sign (a ∷ byte ∷ [])) _ _ (no_spaced_sign a byte blank) ∙ cond-true (is_sign (a ∷ [])) _ _ (ap is_sign e ∙ is) ∙ ap (λ w. Some (Sign w)) e
sign_before bytes (b ∷ []) a byte rest e few blank is = cond-true (is_sign (a ∷ b ∷ [])) _ _ (ap is_sign e ∙ is) ∙ ap (λ w. Some (Sign w)) e
sign_before bytes (b ∷ d ∷ text) a byte rest e few blank is = absurd (omega (arith, few))

before_at : (token : Token) (text : List ℕ) (byte : ℕ) (rest : List ℕ) → text ≡ text_of token → is_blank byte ≡ true → IsToken token → HasShape token text → front_token (text ++ byte ∷ rest) ≡ Some token
before_at token [] byte rest e blank is h = absurd h
before_at (Named bytes) (a ∷ text) byte rest e blank is h =
    front_word a (text ++ byte ∷ rest) h.0
    ∙ ap (λ w. Some (word_of w)) (run_before is_name_byte (a ∷ text) byte rest h.1 (or_from _ _ (blank_no_name byte blank) (blank_no_digit byte blank)) ∙ e)
    ∙ ap Some (cond-false (is_reserved bytes) (Reserved bytes) (Named bytes) (not-true _ (and_parts (is_identifier bytes) (not (is_reserved bytes)) is).1))
before_at (Reserved bytes) (a ∷ text) byte rest e blank is h =
    front_word a (text ++ byte ∷ rest) h.0
    ∙ ap (λ w. Some (word_of w)) (run_before is_name_byte (a ∷ text) byte rest h.1 (or_from _ _ (blank_no_name byte blank) (blank_no_digit byte blank)) ∙ e)
    ∙ ap Some (cond-true (is_reserved bytes) (Reserved bytes) (Named bytes) is)
before_at (Number value) (a ∷ text) byte rest e blank is h =
    front_number a (text ++ byte ∷ rest) h.0
    ∙ ap (λ w. option_map Number (number_of w)) (run_before is_ascii_digit (a ∷ text) byte rest h.1 (blank_no_digit byte blank) ∙ e) ∙ ap (option_map Number) (number_of-decimal value is)
before_at (Sign bytes) (a ∷ text) byte rest e blank is h =
    let parts = sign_parts a h.0 in
    front_sign a (text ++ byte ∷ rest) parts.0 parts.1 ∙ sign_before bytes text a byte rest e h.1 blank is

longest_before : (token : Token) (byte : ℕ) (rest : List ℕ) → IsToken token → is_blank byte ≡ true → IsLongest token (text_of token ++ byte ∷ rest)
longest_before token byte rest is blank =
    subst (IsFront (text_of token ++ byte ∷ rest)) (before_at token (text_of token) byte rest refl blank is (has_shape token is)) (front_right (text_of token ++ byte ∷ rest))

-- ---- and may stand before the next

blank_before : (byte : ℕ) (bytes : List ℕ) (tokens : List Token) → is_blank byte ≡ true → HasTokens bytes tokens → HasTokens (byte ∷ bytes) tokens
blank_before byte bytes [] blank h =
    let last = h.2 in
    (byte ∷ h.0, ap (λ x. byte ∷ x) h.1, (byte ∷ last.0, last.1, blank_gap byte last.0 blank last.2, ap (λ x. byte ∷ x) last.3, last.4))
blank_before byte bytes (token ∷ tokens) blank h =
    let next = h.1.1 in
    (h.0, (h.1.0, record { gap = byte ∷ next.gap; is_gap = blank_gap byte next.gap blank next.is_gap; parts = ap (λ x. byte ∷ x) next.parts; longest = next.longest }, h.1.2), h.2)

pub spaced_right : (tokens : List (Token × ℕ)) → AreSpaced tokens → HasTokens (spaced tokens) (map (λ token. token.0) tokens)
spaced_right [] h = ([], refl, ([], [], no_gap, refl, inl refl))
spaced_right (token ∷ tokens) h =
    let right = blank_before token.1 (spaced tokens) (map (λ t. t.0) tokens) h.0.1 (spaced_right tokens h.1) in (
      right.0,
      (
        token.1 ∷ spaced tokens,
        record {
          gap = [];
          is_gap = no_gap;
          parts = append_assoc (text_of token.0) (token.1 ∷ []) (spaced tokens);
          longest = longest_before token.0 token.1 (spaced tokens) h.0.0 h.0.1;
        },
        right.1,
      ),
      right.2,
    )
