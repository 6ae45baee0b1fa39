-- A text has one answer: one list of tokens, or one first place without a token.
use Rattle.std.proofs.Common.{◌≡◌, ◌≢◌, ℕ, ◌<◌, false, List, [], ◌∷◌, ◌++◌, length, drop, refl, sym, ap, subst, ◌∙◌, arith, ⊎_elim, Result, Ok, Err}
use Rattle.std.specs.Prelude.{nat_eq}
use Rattle.std.proofs.lemmas.Bool.{or_from, and_left, cases_lt}
use Rattle.std.proofs.lemmas.List.{append-nil, append_cancel_left, length-drop, nil_from_length}
use Rattle.civl_tree.specs.Token.{Token, Named, Reserved, Sign, Number, text_of, IsToken}
use Rattle.civl_lex.specs.inner.Front.{behind_gap}
use Rattle.civl_lex.specs.Gap.{is_blank, IsGap, IsLastGap, opens_comment, opens_gap}
use Rattle.civl_lex.specs.Lexical.{IsAtFront, IsLongest}
use Rattle.civl_lex.specs.Text.{IsNext, Leads, HasTokens, IsFault, NoTokenAt, StartsAt, IsLexedAs}
use Rattle.civl_lex.proofs.Fronts.{same_longest, none_at_end}
use Rattle.civl_lex.proofs.Gaps.{gap_skipped, outside_stays, last_gap_ends}
use Rattle.civl_lex.proofs.Spellings.{HasShape, has_shape, outside_name, outside_digit, sign_parts}

-- ---- what stands behind a gap

no_comment : (byte : ℕ) (bytes : List ℕ) → nat_eq byte 47 ≡ false → opens_comment (byte ∷ bytes) ≡ false
no_comment byte [] h = refl
no_comment byte (b ∷ bytes) h = and_left (nat_eq byte 47) (nat_eq b 47) h

outside_from : (byte : ℕ) (bytes : List ℕ) → (is_blank byte ≡ false) × (nat_eq byte 47 ≡ false) → opens_gap (byte ∷ bytes) ≡ false
outside_from byte bytes h = or_from (is_blank byte) (opens_comment (byte ∷ bytes)) h.0 (no_comment byte bytes h.1)

outside_at : (token : Token) (text rest : List ℕ) → HasShape token text → opens_gap (text ++ rest) ≡ false
outside_at token [] rest h = absurd h
outside_at (Named own) (byte ∷ text) rest h = outside_from byte (text ++ rest) (outside_name byte h.0)
outside_at (Reserved own) (byte ∷ text) rest h = outside_from byte (text ++ rest) (outside_name byte h.0)
outside_at (Number value) (byte ∷ text) rest h = outside_from byte (text ++ rest) (outside_digit byte h.0)
outside_at (Sign own) (byte ∷ text) rest h = let parts = sign_parts byte h.0 in outside_from byte (text ++ rest) (parts.2, parts.3)

-- no token begins with a blank or a comment
pub token_outside : (token : Token) (rest : List ℕ) → IsToken token → opens_gap (text_of token ++ rest) ≡ false
token_outside token rest is = outside_at token (text_of token) rest (has_shape token is)

pub behind_next : (token : Token) (bytes after : List ℕ) → IsNext token bytes after → behind_gap bytes ≡ text_of token ++ after
behind_next token bytes after h =
    ap behind_gap h.parts ∙ gap_skipped h.gap (text_of token ++ after) h.is_gap ∙ outside_stays (text_of token ++ after) (token_outside token after h.longest.begins.is_token)

behind_fault : (gap rest : List ℕ) → IsGap gap → IsFault rest → behind_gap (gap ++ rest) ≡ rest
behind_fault gap rest is fault = gap_skipped gap rest is ∙ outside_stays rest fault.outside

-- ---- two answers are one

next_once : (a b : Token) (bytes x y : List ℕ) → IsNext a bytes x → IsNext b bytes y → (a ≡ b) × (x ≡ y)
next_once a b bytes x y h k =
    let same : text_of a ++ x ≡ text_of b ++ y = sym (behind_next a bytes x h) ∙ behind_next b bytes y k in
    let tokens : a ≡ b = same_longest a b (text_of a ++ x) h.longest (subst (IsLongest b) (sym same) k.longest) in
    (tokens, append_cancel_left (text_of b) x y (ap (λ t. text_of t ++ x) (sym tokens) ∙ same))

next_not_last : (token : Token) (bytes after : List ℕ) → IsNext token bytes after → IsLastGap bytes → ⊥
next_not_last token bytes after h last =
    none_at_end token (text_of token) after (has_shape token h.longest.begins.is_token) (sym (last_gap_ends bytes last) ∙ behind_next token bytes after h)

next_not_fault : (token : Token) (gap rest after : List ℕ) → IsGap gap → IsFault rest → IsNext token (gap ++ rest) after → ⊥
next_not_fault token gap rest after is fault h =
    fault.none token (subst (IsAtFront token) (sym (behind_next token (gap ++ rest) after h) ∙ behind_fault gap rest is fault) h.longest.begins)

last_not_fault : (gap rest : List ℕ) → IsGap gap → IsFault rest → IsLastGap (gap ++ rest) → ⊥
last_not_fault gap rest is fault last = fault.some (sym (behind_fault gap rest is fault) ∙ last_gap_ends (gap ++ rest) last)

-- tokens at the front are the first of all tokens
strip : (tokens others : List Token) (bytes rest : List ℕ) → Leads tokens bytes rest → HasTokens bytes others → (more : List Token) × (others ≡ tokens ++ more) × HasTokens rest more
strip [] others bytes rest h k = (others, refl, subst (λ (x : List ℕ). HasTokens x others) h k)
strip (token ∷ tokens) [] bytes rest h k = absurd (next_not_last token bytes h.0 h.1 (subst IsLastGap (sym k.1) k.2))
strip (token ∷ tokens) (other ∷ others) bytes rest h k =
    let once = next_once token other bytes h.0 k.1.0 h.1 k.1.1 in
    let found = strip tokens others h.0 rest h.2 (k.0, subst (λ (x : List ℕ). Leads others x k.0) (sym once.1) k.1.2, k.2) in
    (found.0, ap (λ (t : Token). t ∷ others) (sym once.0) ∙ ap (λ (us : List Token). token ∷ us) found.1, found.2)

none_left : (rest : List ℕ) (more : List Token) → IsLastGap rest → HasTokens rest more → more ≡ []
none_left rest [] last h = refl
none_left rest (token ∷ more) last h = absurd (next_not_last token rest h.1.0 h.1.1 last)

tokens_once : (bytes : List ℕ) (tokens others : List Token) → HasTokens bytes tokens → HasTokens bytes others → tokens ≡ others
tokens_once bytes tokens others h k =
    let found = strip tokens others bytes h.0 h.1 k in
    sym (found.1 ∙ ap (λ (us : List Token). tokens ++ us) (none_left h.0 found.0 h.2 found.2) ∙ append-nil tokens)

fault_not_tokens : (gap rest : List ℕ) (tokens : List Token) → IsGap gap → IsFault rest → HasTokens (gap ++ rest) tokens → ⊥
fault_not_tokens gap rest [] is fault h = last_not_fault gap rest is fault (subst IsLastGap (sym h.1) h.2)
fault_not_tokens gap rest (token ∷ tokens) is fault h = next_not_fault token gap rest h.1.0 is fault h.1.1

not_both : (bytes : List ℕ) (tokens : List Token) (p : ℕ) → HasTokens bytes tokens → NoTokenAt bytes p → ⊥
not_both bytes tokens p h k =
    let found = strip k.0 tokens bytes (k.1.gap ++ drop p bytes) k.1.leads h in
    fault_not_tokens k.1.gap (drop p bytes) found.0 k.1.is_gap k.2 found.2

fault_once : (tokens others : List Token) (bytes g x h y : List ℕ) → IsGap g → IsFault x → IsGap h → IsFault y → Leads tokens bytes (g ++ x) → Leads others bytes (h ++ y) → x ≡ y
fault_once [] [] bytes g x h y is_g fault_x is_h fault_y a b =
    sym (behind_fault g x is_g fault_x) ∙ ap behind_gap (sym a ∙ b) ∙ behind_fault h y is_h fault_y
fault_once [] (other ∷ others) bytes g x h y is_g fault_x is_h fault_y a b =
    absurd (next_not_fault other g x b.0 is_g fault_x (subst (λ (z : List ℕ). IsNext other z b.0) a b.1))
fault_once (token ∷ tokens) [] bytes g x h y is_g fault_x is_h fault_y a b =
    absurd (next_not_fault token h y a.0 is_h fault_y (subst (λ (z : List ℕ). IsNext token z a.0) b a.1))
fault_once (token ∷ tokens) (other ∷ others) bytes g x h y is_g fault_x is_h fault_y a b =
    let once = next_once token other bytes a.0 b.0 a.1 b.1 in
    fault_once tokens others a.0 g x h y is_g fault_x is_h fault_y a.2 (subst (λ (z : List ℕ). Leads others z (h ++ y)) (sym once.1) b.2)

some_length : (bytes : List ℕ) → bytes ≢ [] → 0 < length bytes
some_length bytes some = ⊎_elim (λ h. h) (λ h. absurd (some (nil_from_length bytes (omega arith)))) (cases_lt 0 (length bytes))

same_place : (bytes : List ℕ) (p q : ℕ) → drop p bytes ≢ [] → drop p bytes ≡ drop q bytes → p ≡ q
same_place bytes p q some e =
    let more = some_length (drop p bytes) some in
    omega (arith, length-drop p bytes, length-drop q bytes, ap length e, more)

place_once : (bytes : List ℕ) (p q : ℕ) → NoTokenAt bytes p → NoTokenAt bytes q → p ≡ q
place_once bytes p q h k =
    same_place bytes p q h.2.some
    (fault_once h.0 k.0 bytes h.1.gap (drop p bytes) k.1.gap (drop q bytes) h.1.is_gap h.2 k.1.is_gap k.2 h.1.leads k.1.leads)

pub answer_once : (bytes : List ℕ) (x y : Result (List Token) ℕ) → IsLexedAs bytes x → IsLexedAs bytes y → x ≡ y
answer_once bytes (Ok tokens) (Ok others) h k = ap Ok (tokens_once bytes tokens others h k)
answer_once bytes (Ok tokens) (Err q) h k = absurd (not_both bytes tokens q h k)
answer_once bytes (Err p) (Ok others) h k = absurd (not_both bytes others p k h)
answer_once bytes (Err p) (Err q) h k = ap Err (place_once bytes p q h k)

-- ---- a token begins at one place

behind_longest : (gap rest : List ℕ) (token : Token) → IsGap gap → IsLongest token rest → behind_gap (gap ++ rest) ≡ rest
behind_longest gap rest token is h =
    gap_skipped gap rest is ∙ outside_stays rest (subst (λ (x : List ℕ). opens_gap x ≡ false) (sym h.begins.parts) (token_outside token h.begins.rest h.begins.is_token))

rest_once : (tokens others : List Token) (bytes g x h y : List ℕ) (t u : Token) → length tokens ≡ length others → IsGap g → IsLongest t x → IsGap h → IsLongest u y → Leads tokens bytes (g ++ x) → Leads others bytes (h ++ y) → x ≡ y
rest_once [] [] bytes g x h y t u e is_g long_x is_h long_y a b = sym (behind_longest g x t is_g long_x) ∙ ap behind_gap (sym a ∙ b) ∙ behind_longest h y u is_h long_y
rest_once [] (other ∷ others) bytes g x h y t u e is_g long_x is_h long_y a b = absurd (omega (arith, e))
rest_once (token ∷ tokens) [] bytes g x h y t u e is_g long_x is_h long_y a b = absurd (omega (arith, e))
rest_once (token ∷ tokens) (other ∷ others) bytes g x h y t u e is_g long_x is_h long_y a b =
    let once = next_once token other bytes a.0 b.0 a.1 b.1 in
    rest_once tokens others a.0 g x h y t u (omega (arith, e)) is_g long_x is_h long_y a.2 (subst (λ (z : List ℕ). Leads others z (h ++ y)) (sym once.1) b.2)

longest_some : (token : Token) (bytes : List ℕ) → IsLongest token bytes → bytes ≢ []
longest_some token bytes h e = none_at_end token (text_of token) h.begins.rest (has_shape token h.begins.is_token) (sym e ∙ h.begins.parts)

pub start_once : (bytes : List ℕ) (number p q : ℕ) → StartsAt bytes number p → StartsAt bytes number q → p ≡ q
start_once bytes number p q h k =
    same_place bytes p q (longest_some h.1 (drop p bytes) h.4)
    (rest_once h.0 k.0 bytes h.3.gap (drop p bytes) k.3.gap (drop q bytes) h.1 k.1 (h.2 ∙ sym k.2) h.3.is_gap h.4 k.3.is_gap k.4 h.3.leads k.3.leads)
