-- Blanks and comments: what stands behind them is one thing, and they are what was left out.
use Rattle.std.proofs.Common.{◌≡◌, ◌≢◌, ℕ, ◌+◌, ◌-◌, suc, Bool, true, false, cond, not, ◌&&◌, ◌⊎◌, inl, inr, List, [], ◌∷◌, ◌++◌, length, take, drop, refl, sym, ap, subst, ◌∙◌, append_assoc, arith, eqb}
use Rattle.std.specs.Prelude.{nat_eq, ◌==◌}
use Rattle.std.specs.List.{after_first, starts_with, flat_map, AllByRecursion, prefix_len}
use Rattle.std.proofs.lemmas.Bool.{and_parts, or_parts, cond-true, cond-false, not_from_false, eqb-true, eq-eqb, and_from, false≢true}
use Rattle.std.proofs.lemmas.List.{drop-drop, take_rest}
use Rattle.std.proofs.Math.Bool.{and-false}
use Rattle.civl_lex.specs.inner.Front.{behind, behind_gap}
use Rattle.civl_lex.specs.Gap.{is_blank, is_one_line, Piece, Blank, Comment, IsPiece, piece_text, IsGap, IsOpenComment, IsLastGap, opens_comment, opens_gap}

-- ---- what the code does

within_at : (byte : ℕ) (bytes : List ℕ) (b : Bool) → nat_eq byte 10 ≡ b → behind true bytes ≡ behind false (after_first (λ x. x == 10) bytes) → behind (not b) bytes ≡ behind false (drop (cond (not b) (1 + prefix_len (λ x. not (x == 10)) bytes) 0 + 1) (byte ∷ bytes))
within_at byte bytes true e h = refl
within_at byte bytes false e h = let one : 1 + prefix_len (λ x. not (x == 10)) bytes + 1 ≡ suc (prefix_len (λ x. not (x == 10)) bytes + 1) = omega arith in rw one h

-- within a comment, what stands behind its line feed
pub behind_within : (bytes : List ℕ) → behind true bytes ≡ behind false (after_first (λ x. x == 10) bytes)
behind_within [] = refl
behind_within (byte ∷ bytes) = within_at byte bytes (nat_eq byte 10) refl (behind_within bytes)

opens_is_at : (a b : ℕ) (bytes : List ℕ) → (nat_eq a 47 && nat_eq b 47) ≡ true → (a ≡ 47) × (b ≡ 47)
opens_is_at a b bytes h = let parts = and_parts (nat_eq a 47) (nat_eq b 47) h in (eqb-true a 47 parts.0, eqb-true b 47 parts.1)

-- where a comment opens, both its slashes are there
pub opens_is : (bytes : List ℕ) → opens_comment bytes ≡ true → bytes ≡ 47 ∷ 47 ∷ drop 2 bytes
opens_is [] h = absurd cc
opens_is (a ∷ []) h = absurd cc
opens_is (a ∷ b ∷ bytes) h = let parts = opens_is_at a b bytes h in rw (parts.0, parts.1) refl

pub starts_is_opens : (bytes : List ℕ) → starts_with nat_eq bytes (47 ∷ 47 ∷ []) ≡ true → opens_comment bytes ≡ true
starts_is_opens [] h = absurd cc
starts_is_opens (a ∷ []) h = absurd (false≢true (sym (and-false (eqb 47 a)) ∙ h))
starts_is_opens (a ∷ b ∷ bytes) h =
    let parts = and_parts (eqb 47 a) (eqb 47 b && true) h in
    let more = and_parts (eqb 47 b) true parts.1 in
    and_from (eqb a 47) (eqb b 47) (eq-eqb a 47 (sym (eqb-true 47 a parts.0))) (eq-eqb b 47 (sym (eqb-true 47 b more.0)))

pub comment_skipped : (s : List ℕ) (at : ℕ) → starts_with nat_eq (take (length s - at) (drop at s)) (47 ∷ 47 ∷ []) ≡ true → behind_gap (after_first (λ x. x == 10) (drop (at + 2) s)) ≡ behind_gap (drop at s)
comment_skipped s at h =
    let opens : opens_comment (drop at s) ≡ true = starts_is_opens (drop at s) (subst (λ (x : List ℕ). starts_with nat_eq x (47 ∷ 47 ∷ []) ≡ true) (take_rest s at) h) in
    let parts : drop at s ≡ 47 ∷ 47 ∷ drop (at + 2) s = opens_is (drop at s) opens ∙ ap (λ (x : List ℕ). 47 ∷ 47 ∷ x) (drop-drop 2 at s) in
    sym (ap behind_gap parts ∙ behind_within (drop (at + 2) s))

-- ---- a gap is skipped

line_passed : (line rest : List ℕ) → is_one_line line ≡ true → behind true (line ++ 10 ∷ rest) ≡ behind false rest
line_passed [] rest h = refl
line_passed (byte ∷ line) rest h =
    let parts = and_parts (not (nat_eq byte 10)) (is_one_line line) h in
    ap (λ (b : Bool). behind b (line ++ 10 ∷ rest)) parts.0 ∙ line_passed line rest parts.1

line_ends : (line : List ℕ) → is_one_line line ≡ true → behind true line ≡ []
line_ends [] h = refl
line_ends (byte ∷ line) h =
    let parts = and_parts (not (nat_eq byte 10)) (is_one_line line) h in
    ap (λ (b : Bool). behind b line) parts.0 ∙ line_ends line parts.1

comment_text : (line more rest : List ℕ) → ((line ++ 10 ∷ []) ++ more) ++ rest ≡ line ++ 10 ∷ (more ++ rest)
comment_text line more rest = append_assoc (line ++ 10 ∷ []) more rest ∙ append_assoc line (10 ∷ []) (more ++ rest)

pieces_skipped : (pieces : List Piece) (rest : List ℕ) → AllByRecursion IsPiece pieces → behind_gap (flat_map piece_text pieces ++ rest) ≡ behind_gap rest
pieces_skipped [] rest h = refl
pieces_skipped (Blank byte ∷ pieces) rest h = cond-true (is_blank byte) _ _ h.0 ∙ pieces_skipped pieces rest h.1
pieces_skipped (Comment line ∷ pieces) rest h =
    ap (behind true) (comment_text line (flat_map piece_text pieces) rest) ∙ line_passed line (flat_map piece_text pieces ++ rest) h.0 ∙ pieces_skipped pieces rest h.1

pub gap_skipped : (gap rest : List ℕ) → IsGap gap → behind_gap (gap ++ rest) ≡ behind_gap rest
gap_skipped gap rest h = ap (λ x. behind_gap (x ++ rest)) h.2 ∙ pieces_skipped h.0 rest h.1

-- what begins no gap is left as it is
pub outside_stays : (rest : List ℕ) → opens_gap rest ≡ false → behind_gap rest ≡ rest
outside_stays [] h = refl
outside_stays (byte ∷ rest) h =
    let parts = or_parts (is_blank byte) (opens_comment (byte ∷ rest)) h in
    cond-false (is_blank byte) _ _ parts.0 ∙ cond-false (opens_comment (byte ∷ rest)) _ _ parts.1

last_at : (rest : List ℕ) → (rest ≡ []) ⊎ IsOpenComment rest → behind_gap rest ≡ []
last_at rest (inl e) = ap behind_gap e
last_at rest (inr h) = ap behind_gap h.2 ∙ line_ends h.0 h.1

-- nothing stands behind the last gap
pub last_gap_ends : (bytes : List ℕ) → IsLastGap bytes → behind_gap bytes ≡ []
last_gap_ends bytes h = ap behind_gap h.3 ∙ gap_skipped h.0 h.1 h.2 ∙ last_at h.1 h.4

-- ---- what is left out is a gap

pub record EndsGap (bytes rest : List ℕ) : Type 0 where
  pub gap : List ℕ
  pub tail : List ℕ
  pub is_gap : IsGap gap
  pub parts : bytes ≡ gap ++ tail
  pub ends : ((tail ≡ rest) × (opens_gap rest ≡ false)) ⊎ ((rest ≡ []) × IsOpenComment tail)

-- these bytes stand within a comment, and `rest` behind it and what follows it
record EndsComment (bytes rest : List ℕ) : Type 0 where
  line : List ℕ
  one_line : is_one_line line ≡ true
  ends : ((bytes ≡ line) × (rest ≡ [])) ⊎ ((after : List ℕ) × (bytes ≡ line ++ 10 ∷ after) × EndsGap after rest)

pub no_gap : IsGap []
no_gap = ([], tt, refl)

pub blank_gap : (byte : ℕ) (gap : List ℕ) → is_blank byte ≡ true → IsGap gap → IsGap (byte ∷ gap)
blank_gap byte gap h is = (Blank byte ∷ is.0, (h, is.1), ap (λ x. byte ∷ x) is.2)

comment_gap : (line gap : List ℕ) → is_one_line line ≡ true → IsGap gap → IsGap (47 ∷ 47 ∷ (line ++ 10 ∷ gap))
comment_gap line gap h is = (Comment line ∷ is.0, (h, is.1), ap (λ x. 47 ∷ 47 ∷ x) (ap (λ x. line ++ 10 ∷ x) is.2 ∙ sym (append_assoc line (10 ∷ []) (flat_map piece_text is.0))))

gap_after : (byte : ℕ) (bytes rest : List ℕ) → is_blank byte ≡ true → EndsGap bytes rest → EndsGap (byte ∷ bytes) rest
gap_after byte bytes rest h found = record {
  gap = byte ∷ found.gap;
  tail = found.tail;
  is_gap = blank_gap byte found.gap h found.is_gap;
  parts = ap (λ x. byte ∷ x) found.parts;
  ends = found.ends;
}

line_after : (byte : ℕ) (bytes rest : List ℕ) → nat_eq byte 10 ≡ false → EndsComment bytes rest → EndsComment (byte ∷ bytes) rest
line_after byte bytes rest h found = record {
  line = byte ∷ found.line;
  one_line = and_from (not (nat_eq byte 10)) (is_one_line found.line) (not_from_false _ h) found.one_line;
  ends = elim found.ends [ inl e ↦ inl (ap (λ x. byte ∷ x) e.0, e.1) | inr e ↦ inr (e.0, ap (λ x. byte ∷ x) e.1, e.2) ];
}

line_over : (byte : ℕ) (bytes rest : List ℕ) → nat_eq byte 10 ≡ true → EndsGap bytes rest → EndsComment (byte ∷ bytes) rest
line_over byte bytes rest h found = record {
  line = [];
  one_line = refl;
  ends = inr (bytes, ap (λ (x : ℕ). x ∷ bytes) (eqb-true byte 10 h), found);
}

-- a comment whose second slash is the first byte of `line`
comment_by : (bytes rest line : List ℕ) → is_one_line line ≡ true → ((47 ∷ bytes ≡ line) × (rest ≡ [])) ⊎ ((after : List ℕ) × (47 ∷ bytes ≡ line ++ 10 ∷ after) × EndsGap after rest) → EndsGap (47 ∷ 47 ∷ bytes) rest
comment_by bytes rest [] h (inl e) = absurd cc
comment_by bytes rest [] h (inr e) = let k : 47 ≡ 10 = cc in absurd (false≢true (ap (λ (x : ℕ). nat_eq x 10) k))
comment_by bytes rest (byte ∷ line) h (inl e) =
    let same : bytes ≡ line = cc in
    let one : is_one_line bytes ≡ true = ap is_one_line same ∙ (and_parts (not (nat_eq byte 10)) (is_one_line line) h).1 in
    record { gap = []; tail = 47 ∷ 47 ∷ bytes; is_gap = no_gap; parts = refl; ends = inr (e.1, (bytes, one, refl)) }
comment_by bytes rest (byte ∷ line) h (inr e) =
    let same : bytes ≡ line ++ 10 ∷ e.0 = cc in
    record {
      gap = 47 ∷ 47 ∷ (line ++ 10 ∷ e.2.gap);
      tail = e.2.tail;
      is_gap = comment_gap line e.2.gap (and_parts (not (nat_eq byte 10)) (is_one_line line) h).1 e.2.is_gap;
      parts = ap (λ x. 47 ∷ 47 ∷ x) (same ∙ ap (λ x. line ++ 10 ∷ x) e.2.parts ∙ sym (append_assoc line (10 ∷ e.2.gap) e.2.tail));
      ends = e.2.ends;
    }

comment_found : (bytes rest : List ℕ) → EndsComment (47 ∷ bytes) rest → EndsGap (47 ∷ 47 ∷ bytes) rest
comment_found bytes rest found = comment_by bytes rest found.line found.one_line found.ends

comment_next : (byte : ℕ) (bytes rest : List ℕ) → opens_comment (byte ∷ bytes) ≡ true → EndsComment bytes rest → EndsGap (byte ∷ bytes) rest
comment_next byte [] rest h found = absurd cc
comment_next byte (b ∷ bytes) rest h found =
    let parts = opens_is_at byte b bytes h in
    subst (λ (x : List ℕ). EndsGap x rest) (rw (parts.0, parts.1) refl) (comment_found bytes rest (subst (λ (x : ℕ). EndsComment (x ∷ bytes) rest) parts.1 found))

none_next : (bytes : List ℕ) → opens_gap bytes ≡ false → EndsGap bytes bytes
none_next bytes h = record { gap = []; tail = bytes; is_gap = no_gap; parts = refl; ends = inl (refl, h) }

outside_at : (byte : ℕ) (bytes : List ℕ) (b d : Bool) → is_blank byte ≡ b → opens_comment (byte ∷ bytes) ≡ d → EndsGap bytes (behind false bytes) → EndsComment bytes (behind true bytes)
    → EndsGap (byte ∷ bytes) (cond b (behind false bytes) (cond d (behind true bytes) (byte ∷ bytes)))
outside_at byte bytes true d blank opens gap line = gap_after byte bytes _ blank gap
outside_at byte bytes false true blank opens gap line = comment_next byte bytes _ opens line
outside_at byte bytes false false blank opens gap line = none_next (byte ∷ bytes) (rw (blank, opens) refl)

inside_at : (byte : ℕ) (bytes : List ℕ) (b : Bool) → nat_eq byte 10 ≡ b → EndsGap bytes (behind false bytes) → EndsComment bytes (behind true bytes) → EndsComment (byte ∷ bytes) (behind (not b) bytes)
inside_at byte bytes true feed gap line = line_over byte bytes _ feed gap
inside_at byte bytes false feed gap line = line_after byte bytes _ feed line

both_found : (bytes : List ℕ) → EndsGap bytes (behind false bytes) × EndsComment bytes (behind true bytes)
both_found [] = (none_next [] refl, record { line = []; one_line = refl; ends = inl (refl, refl) })
both_found (byte ∷ bytes) =
    let found = both_found bytes in
    (outside_at byte bytes (is_blank byte) (opens_comment (byte ∷ bytes)) refl refl found.0 found.1, inside_at byte bytes (nat_eq byte 10) refl found.0 found.1)

-- what stands before `behind_gap` of the bytes is a gap, or the last gap where nothing is behind it
pub gap_found : (bytes : List ℕ) → EndsGap bytes (behind_gap bytes)
gap_found bytes = (both_found bytes).0

-- where nothing is behind the gap, it is the last
pub last_from : (rest end : List ℕ) → EndsGap rest end → end ≡ [] → IsLastGap rest
last_from rest end h e = (h.gap, h.tail, h.is_gap, h.parts, elim h.ends [ inl k ↦ inl (k.0 ∙ e) | inr k ↦ inr k.1 ])

-- what begins at a place within the text stands behind a gap
unfoldable pub Behind : List ℕ → List ℕ → Type 0
Behind rest end = (gap : List ℕ) × IsGap gap × (rest ≡ gap ++ end) × (opens_gap end ≡ false)

pub behind_from : (rest end : List ℕ) → end ≢ [] → EndsGap rest end → Behind rest end
unfolding Behind
behind_from rest end some h = elim h.ends [ inl k ↦ (h.gap, h.is_gap, h.parts ∙ ap (λ x. h.gap ++ x) k.0, k.1) | inr k ↦ absurd (some k.0) ]
