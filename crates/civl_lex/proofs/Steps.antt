-- The tokens that were found up to a place of a text, and one more.
use Rattle.std.proofs.Common.{◌≡◌, ◌≢◌, ℕ, ◌+◌, ◌<◌, ◌≤◌, suc, zero, ◌⊎◌, inl, inr, List, [], ◌∷◌, ◌++◌, length, take, drop, refl, sym, ap, subst, ◌∙◌, arith, Some, None}
use Rattle.std.specs.Prelude.{slice_get}
use Rattle.std.specs.List.{All}
use Rattle.std.proofs.lemmas.List.{length-drop, length-map, drop-drop, drop_at, drop_all, map_push}
use Rattle.std.proofs.lemmas.List.Elements.{All-push}
use Rattle.civl_tree.specs.Token.{Token as Spelling, text_of}
use Rattle.civl_lex.specs.declared.token.Token.{Token}
use Rattle.civl_lex.specs.inner.Front.{behind_gap, front_token, IsCut}
use Rattle.civl_lex.specs.Lexical.{IsLongest}
use Rattle.civl_lex.specs.Spelled.{spelled, spelled_token, IsCutFrom, HaveStarts}
use Rattle.civl_lex.specs.Text.{IsNext, Leads, HasTokens, Reaches, NoTokenAt, StartsAt}
use Rattle.civl_lex.proofs.Fronts.{IsFront, front_right}
use Rattle.civl_lex.proofs.Gaps.{EndsGap, gap_found, last_from, Behind, behind_from}
use Rattle.civl_lex.proofs.Spellings.{text_some}

-- These tokens stand before the place, which is outside blanks and comments, or the end.
pub record IsUpTo (bytes : List ℕ) (found : List Token) (at : ℕ) : Type 0 where
  pub rest : List ℕ
  pub leads : Leads (spelled found) bytes rest
  pub ends : EndsGap rest (drop at bytes)
  pub starts : HaveStarts bytes found
  pub texts : All (IsCutFrom bytes) found

pub up_to_none : (bytes : List ℕ) (at : ℕ) → drop at bytes ≡ behind_gap bytes → IsUpTo bytes [] at
up_to_none bytes at e = record {
  rest = bytes;
  leads = refl;
  ends = subst (EndsGap bytes) (sym e) (gap_found bytes);
  starts = λ number token h. absurd cc;
  texts = λ k d h. absurd (omega arith);
}

pub up_to_all : (bytes : List ℕ) (found : List Token) (at : ℕ) → IsUpTo bytes found at → length bytes ≤ at → HasTokens bytes (spelled found)
up_to_all bytes found at h end = (h.rest, h.leads, last_from h.rest (drop at bytes) h.ends (drop_all at bytes end))

within_some : (bytes : List ℕ) (at : ℕ) → at < length bytes → drop at bytes ≢ []
within_some bytes at h e = absurd (omega (arith, length-drop at bytes, ap length e))

reaches_from : (tokens : List Spelling) (bytes rest : List ℕ) (at : ℕ) → Leads tokens bytes rest → Behind rest (drop at bytes) → Reaches tokens bytes at
unfolding Behind
reaches_from tokens bytes rest at leads h = record { gap = h.0; is_gap = h.1; leads = subst (Leads tokens bytes) h.2 leads }

pub up_to_fault : (bytes : List ℕ) (found : List Token) (at : ℕ) → IsUpTo bytes found at → at < length bytes → None ≡ front_token (drop at bytes) → NoTokenAt bytes at
unfolding Behind
up_to_fault bytes found at h within e =
    let some = within_some bytes at within in
    let behind = behind_from h.rest (drop at bytes) some h.ends in (
      spelled found,
      reaches_from (spelled found) bytes h.rest at h.leads behind,
      record { some = some; outside = behind.3; none = subst (IsFront (drop at bytes)) (sym e) (front_right (drop at bytes)) },
    )

-- ---- one token more

leads_more : (tokens : List Spelling) (token : Spelling) (bytes rest after : List ℕ) → Leads tokens bytes rest → IsNext token rest after → Leads (tokens ++ token ∷ []) bytes after
leads_more [] token bytes rest after h next = (after, subst (λ (x : List ℕ). IsNext token x after) (sym h) next, refl)
leads_more (first ∷ tokens) token bytes rest after h next = (h.0, h.1, leads_more tokens token h.0 rest after h.2 next)

get_push : (xs : List Token) (y : Token) (number : ℕ) (x : Token) → slice_get (xs ++ y ∷ []) number ≡ Some x → (slice_get xs number ≡ Some x) ⊎ ((length xs ≡ number) × (x ≡ y))
get_push [] y zero x h = inr (refl, cc)
get_push [] y (suc number) x h = absurd cc
get_push (z ∷ xs) y zero x h = inl h
get_push (z ∷ xs) y (suc number) x h = elim (get_push xs y number x h) [ inl k ↦ inl k | inr k ↦ inr (ap suc k.0, k.1) ]

starts_more : (bytes : List ℕ) (found : List Token) (token : Token) → HaveStarts bytes found → StartsAt bytes (length found) token.start → HaveStarts bytes (found ++ token ∷ [])
starts_more bytes found token h k number x e = elim (get_push found token number x e) [
  | inl d ↦ h number x d
  | inr d ↦ subst (λ (t : Token). StartsAt bytes number t.start) (sym d.1) (subst (λ (n : ℕ). StartsAt bytes n token.start) d.0 k)
]

cut_from : (bytes : List ℕ) (at : ℕ) (token : Token) → IsCut (drop at bytes) at token → IsCutFrom bytes token
cut_from bytes at token h = record { own = h.own; slice = h.slice ∙ ap (λ (n : ℕ). take (length token.text.now) (drop n bytes)) (sym h.start) }

-- what the next token's facts are
record Takes (bytes : List ℕ) (at : ℕ) (token : Token) : Type 0 where
  longest : IsLongest (spelled_token token) (drop at bytes)
  cut : IsCut (drop at bytes) at token

taken : (bytes : List ℕ) (at : ℕ) (token : Token) → Some (spelled_token token) ≡ front_token (drop at bytes) → IsCut (drop at bytes) at token → Takes bytes at token
taken bytes at token e cut = record { longest = subst (IsFront (drop at bytes)) (sym e) (front_right (drop at bytes)); cut = cut }

pub token_some : (bytes : List ℕ) (at : ℕ) (token : Token) → Some (spelled_token token) ≡ front_token (drop at bytes) → IsCut (drop at bytes) at token → 0 < length token.text.now
token_some bytes at token e cut =
    let h = taken bytes at token e cut in
    omega (arith, text_some (spelled_token token) h.longest.begins.is_token, ap length cut.own)

after_text : (bytes : List ℕ) (at : ℕ) (token : Token) (h : Takes bytes at token) → drop (at + length token.text.now) bytes ≡ h.longest.begins.rest
after_text bytes at token h =
    sym (drop-drop (length token.text.now) at bytes) ∙ ap (drop (length token.text.now)) h.longest.begins.parts
    ∙ drop_at (text_of (spelled_token token)) h.longest.begins.rest (length token.text.now) (sym (ap length h.cut.own))

next_from : (rest bytes : List ℕ) (at : ℕ) (token : Token) (h : Takes bytes at token) → Behind rest (drop at bytes) → IsNext (spelled_token token) rest h.longest.begins.rest
unfolding Behind
next_from rest bytes at token h behind = record {
  gap = behind.0;
  is_gap = behind.1;
  parts = behind.2 ∙ ap (λ x. behind.0 ++ x) h.longest.begins.parts;
  longest = subst (IsLongest (spelled_token token)) h.longest.begins.parts h.longest;
}

starts_from : (bytes rest : List ℕ) (found : List Token) (at : ℕ) (token : Token) → Leads (spelled found) bytes rest → Takes bytes at token → Behind rest (drop at bytes) → StartsAt bytes (length found) token.start
starts_from bytes rest found at token leads h behind =
    subst (λ (n : ℕ). StartsAt bytes (length found) n) (sym h.cut.start)
    (spelled found, spelled_token token, length-map found spelled_token, reaches_from (spelled found) bytes rest at leads behind, h.longest)

pub up_to_more : (bytes : List ℕ) (found : List Token) (at next : ℕ) (token : Token) → IsUpTo bytes found at → at < length bytes
    → Some (spelled_token token) ≡ front_token (drop at bytes) → IsCut (drop at bytes) at token → drop next bytes ≡ behind_gap (drop (at + length token.text.now) bytes) → IsUpTo bytes (found ++ token ∷ []) next
up_to_more bytes found at next token h within e cut goes =
    let takes = taken bytes at token e cut in
    let behind = behind_from h.rest (drop at bytes) (within_some bytes at within) h.ends in
    let after = takes.longest.begins.rest in
    record {
      rest = after;
      leads = subst (λ (ts : List Spelling). Leads ts bytes after) (sym (map_push spelled_token found token))
          (leads_more (spelled found) (spelled_token token) bytes h.rest after h.leads (next_from h.rest bytes at token takes behind));
      ends = subst (EndsGap after) (sym (goes ∙ ap behind_gap (after_text bytes at token takes))) (gap_found after);
      starts = starts_more bytes found token h.starts (starts_from bytes h.rest found at token h.leads takes behind);
      texts = All-push (IsCutFrom bytes) found token h.texts (cut_from bytes at token cut);
    }
