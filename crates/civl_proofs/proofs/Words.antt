-- Words: what blanks part.
use Rattle.std.proofs.Common.{◌≡◌, ℕ, Bool, true, false, not, List, [], ◌∷◌, ◌++◌, refl, ap, subst, ◌∙◌}
use Rattle.std.specs.Prelude.{filter}
use Rattle.std.proofs.lemmas.List.{append-nil}
use Rattle.std.specs.List.{slice_split, onto_first, list_all}
use Rattle.std.proofs.lemmas.Bool.{cond-true, cond-false, and_parts, not-true}
use Rattle.civl_proofs.specs.Text.{is_blank, is_filled, words_of}

-- no blank is among the bytes
abbrev pub is_dense : List ℕ → Bool
is_dense bytes = list_all (λ byte. not (is_blank byte)) bytes

-- a list that was split has a first part
pub record IsParted (p : ℕ → Bool) (bytes : List ℕ) : Type 0 where
  pub first : List ℕ
  pub others : List (List ℕ)
  pub is : slice_split p bytes ≡ first ∷ others

parted_at : (p : ℕ → Bool) (byte : ℕ) (bytes : List ℕ) (b : Bool) → p byte ≡ b → IsParted p bytes → IsParted p (byte ∷ bytes)
parted_at p byte bytes true e h = record { first = []; others = slice_split p bytes; is = cond-true (p byte) _ _ e }
parted_at p byte bytes false e h = record { first = byte ∷ h.first; others = h.others; is = cond-false (p byte) _ _ e ∙ ap (onto_first byte) h.is }

pub parted : (p : ℕ → Bool) (bytes : List ℕ) → IsParted p bytes
parted p [] = record { first = []; others = []; is = refl }
parted p (byte ∷ bytes) = parted_at p byte bytes (p byte) refl (parted p bytes)

-- bytes that don't part stand at the front of the first part
pub onto_parts : (p : ℕ → Bool) (front bytes first : List ℕ) (others : List (List ℕ)) → list_all (λ byte. not (p byte)) front ≡ true → slice_split p bytes ≡ first ∷ others → slice_split p (front ++ bytes) ≡ (front ++ first) ∷ others
onto_parts p [] bytes first others dense h = h
onto_parts p (byte ∷ front) bytes first others dense h =
    let parts = and_parts (not (p byte)) (list_all (λ x. not (p x)) front) dense in
    cond-false (p byte) _ _ (not-true (p byte) parts.0) ∙ ap (onto_first byte) (onto_parts p front bytes first others parts.1 h)

-- ---- words

pub words_none : words_of [] ≡ []
words_none = refl

pub words_blank : (byte : ℕ) (line : List ℕ) → is_blank byte ≡ true → words_of (byte ∷ line) ≡ words_of line
words_blank byte line h = ap (filter is_filled) (cond-true (is_blank byte) _ _ h)

-- a word that ends with the line
pub words_whole : (byte : ℕ) (word : List ℕ) → is_dense (byte ∷ word) ≡ true → words_of (byte ∷ word) ≡ (byte ∷ word) ∷ []
words_whole byte word dense =
    let e : slice_split is_blank ((byte ∷ word) ++ []) ≡ ((byte ∷ word) ++ []) ∷ [] = onto_parts is_blank (byte ∷ word) [] [] [] dense refl in
    let same : (byte ∷ word) ++ [] ≡ byte ∷ word = append-nil (byte ∷ word) in
    ap (filter is_filled) (subst (λ (x : List ℕ). slice_split is_blank x ≡ x ∷ []) same e)

-- a word that ends at a blank
pub words_ended : (byte : ℕ) (word : List ℕ) (blank : ℕ) (line : List ℕ) → is_dense (byte ∷ word) ≡ true → is_blank blank ≡ true → words_of ((byte ∷ word) ++ blank ∷ line) ≡ (byte ∷ word) ∷ words_of line
words_ended byte word blank line dense h =
    let e : slice_split is_blank ((byte ∷ word) ++ blank ∷ line) ≡ ((byte ∷ word) ++ []) ∷ slice_split is_blank line = onto_parts is_blank (byte ∷ word) (blank ∷ line) [] (slice_split is_blank line) dense (cond-true (is_blank blank) _ _ h) in
    ap (filter is_filled) (e ∙ ap (λ (x : List ℕ). x ∷ slice_split is_blank line) (append-nil (byte ∷ word)))

filled : (front more : List ℕ) (byte : ℕ) → is_filled (front ++ byte ∷ more) ≡ true
filled [] more byte = refl
filled (b ∷ front) more byte = refl

-- a line that begins with bytes that are no blanks has a word first that begins with them
pub record HasFirstWord (front : List ℕ) (byte : ℕ) (line : List ℕ) : Type 0 where
  pub more : List ℕ
  pub others : List (List ℕ)
  pub is : words_of (front ++ byte ∷ line) ≡ (front ++ byte ∷ more) ∷ others

pub words_begun : (front line : List ℕ) (byte : ℕ) → is_dense front ≡ true → is_blank byte ≡ false → HasFirstWord front byte line
words_begun front line byte dense inked =
    let p = parted is_blank line in
    let e : slice_split is_blank (byte ∷ line) ≡ (byte ∷ p.first) ∷ p.others = cond-false (is_blank byte) _ _ inked ∙ ap (onto_first byte) p.is in
    record {
      more = p.first;
      others = filter is_filled p.others;
      is = ap (filter is_filled) (onto_parts is_blank front (byte ∷ line) (byte ∷ p.first) p.others dense e) ∙ cond-true (is_filled (front ++ byte ∷ p.first)) _ _ (filled front p.first byte);
    }
