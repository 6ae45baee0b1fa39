-- All bytes have an answer: the one that reading from the front gives.
use Rattle.std.proofs.Common.{◌≡◌, ◌≢◌, ℕ, ◌+◌, ◌-◌, ◌<◌, ◌≤◌, suc, zero, List, [], ◌∷◌, ◌++◌, length, drop, refl, sym, ap, subst, ◌∙◌, arith, Option, Some, None, Result, Ok, Err, inl, inr}
use Rattle.std.proofs.lemmas.List.{length-append, length-drop, drop_at, drop-drop}
use Rattle.civl_tree.specs.Token.{Token, text_of}
use Rattle.civl_lex.specs.inner.Front.{behind_gap, front_token}
use Rattle.civl_lex.specs.Lexical.{IsLongest}
use Rattle.civl_lex.specs.Text.{IsNext, Leads, IsFault, NoTokenAt, IsLexedAs}
use Rattle.civl_lex.proofs.Fronts.{IsFront, front_right, text_within}
use Rattle.civl_lex.proofs.Gaps.{EndsGap, gap_found, last_from, Behind, behind_from}
use Rattle.civl_lex.proofs.Spellings.{text_some}

abbrev Answer : Type 0
Answer = Result (List Token) ℕ

-- an answer for what stands behind the token, which takes the first bytes
abbrev pub behind_token : Token → ℕ → Answer → Answer
behind_token token taken (Ok tokens) = Ok (token ∷ tokens)
behind_token token taken (Err p) = Err (taken + p)

abbrev pub taken_at : ℕ → List ℕ → Option Token → (Token → Answer) → Answer
taken_at whole [] front next = Ok []
taken_at whole (byte ∷ rest) None next = Err (whole - length (byte ∷ rest))
taken_at whole (byte ∷ rest) (Some token) next = behind_token token (whole - length (byte ∷ rest) + length (text_of token)) (next token)

-- the answer for bytes that are fewer than the first number
abbrev pub answer_of : ℕ → List ℕ → Answer
answer_of zero bytes = Ok []
answer_of (suc n) bytes = taken_at (length bytes) (behind_gap bytes) (front_token (behind_gap bytes)) (λ token. answer_of n (drop (length (text_of token)) (behind_gap bytes)))

gap_length : (bytes gap rest : List ℕ) → bytes ≡ gap ++ rest → length gap ≡ length bytes - length rest
gap_length bytes gap rest e = omega (arith, ap length e, length-append gap rest)

place_is : (bytes rest : List ℕ) → Behind bytes rest → drop (length bytes - length rest) bytes ≡ rest
unfolding Behind
place_is bytes rest h = ap (drop (length bytes - length rest)) h.2 ∙ drop_at h.0 rest (length bytes - length rest) (gap_length bytes h.0 rest h.2)

fault_right : (bytes rest : List ℕ) → Behind bytes rest → rest ≢ [] → IsFront rest None → NoTokenAt bytes (length bytes - length rest)
unfolding Behind
fault_right bytes rest h some none =
    let place = place_is bytes rest h in
    ([], record { gap = h.0; is_gap = h.1; leads = h.2 ∙ ap (λ x. h.0 ++ x) (sym place) }, subst IsFault (sym place) (record { some = some; outside = h.3; none = none }))

after_longest : (rest : List ℕ) (token : Token) (h : IsLongest token rest) → rest ≡ text_of token ++ drop (length (text_of token)) rest
after_longest rest token h =
    h.begins.parts ∙ ap (λ x. text_of token ++ x) (sym (ap (drop (length (text_of token))) h.begins.parts ∙ drop_at (text_of token) h.begins.rest (length (text_of token)) refl))

next_right : (bytes rest : List ℕ) (token : Token) → Behind bytes rest → IsLongest token rest → IsNext token bytes (drop (length (text_of token)) rest)
unfolding Behind
next_right bytes rest token h longest =
    let parts = after_longest rest token longest in
    record { gap = h.0; is_gap = h.1; parts = h.2 ∙ ap (λ x. h.0 ++ x) parts; longest = subst (IsLongest token) parts longest }

behind_right : (bytes rest : List ℕ) (token : Token) (x : Answer) → Behind bytes rest → IsLongest token rest → IsLexedAs (drop (length (text_of token)) rest) x
    → IsLexedAs bytes (behind_token token (length bytes - length rest + length (text_of token)) x)
behind_right bytes rest token (Ok tokens) h longest right = (right.0, (drop (length (text_of token)) rest, next_right bytes rest token h longest, right.1), right.2)
behind_right bytes rest token (Err p) h longest right =
    let after = drop (length (text_of token)) rest in
    let place : drop p after ≡ drop (length bytes - length rest + length (text_of token) + p) bytes =
    ap (λ (x : List ℕ). drop p (drop (length (text_of token)) x)) (sym (place_is bytes rest h))
    ∙ ap (drop p) (drop-drop (length (text_of token)) (length bytes - length rest) bytes) ∙ drop-drop p (length bytes - length rest + length (text_of token)) bytes in (
      token ∷ right.0,
      record { gap = right.1.gap; is_gap = right.1.is_gap; leads = (after, next_right bytes rest token h longest, subst (λ (x : List ℕ). Leads right.0 after (right.1.gap ++ x)) place right.1.leads) },
      subst IsFault place right.2,
    )

taken_right : (bytes rest : List ℕ) (front : Option Token) (next : Token → Answer) → EndsGap bytes rest → IsFront rest front
    → ((token : Token) → IsLongest token rest → IsLexedAs (drop (length (text_of token)) rest) (next token)) → IsLexedAs bytes (taken_at (length bytes) rest front next)
taken_right bytes [] front next found right more = (bytes, refl, last_from bytes [] found refl)
taken_right bytes (byte ∷ rest) None next found right more = fault_right bytes (byte ∷ rest) (behind_from bytes (byte ∷ rest) (λ e. cc) found) (λ e. cc) right
taken_right bytes (byte ∷ rest) (Some token) next found right more = behind_right bytes (byte ∷ rest) token (next token) (behind_from bytes (byte ∷ rest) (λ e. cc) found) right (more token right)

rest_within : (bytes rest : List ℕ) → EndsGap bytes rest → length rest ≤ length bytes
rest_within bytes rest found = elim found.ends [
  | inl k ↦ omega (arith, ap length found.parts, length-append found.gap found.tail, ap length k.0)
  | inr k ↦ rw k.0 (omega arith)
]

pub answer_right : (n : ℕ) (bytes : List ℕ) → length bytes < n → IsLexedAs bytes (answer_of n bytes)
answer_right zero bytes few = absurd (omega arith)
answer_right (suc n) bytes few =
    let found = gap_found bytes in
    taken_right bytes (behind_gap bytes) (front_token (behind_gap bytes)) (λ token. answer_of n (drop (length (text_of token)) (behind_gap bytes))) found (front_right (behind_gap bytes))
    (λ token longest. answer_right n (drop (length (text_of token)) (behind_gap bytes))
    (omega (arith, length-drop (length (text_of token)) (behind_gap bytes), rest_within bytes (behind_gap bytes) found, text_some token longest.begins.is_token, text_within token (behind_gap bytes) longest.begins)))

pub some_answer : (bytes : List ℕ) → (x : Answer) × IsLexedAs bytes x
some_answer bytes = (answer_of (suc (length bytes)) bytes, answer_right (suc (length bytes)) bytes (omega arith))
