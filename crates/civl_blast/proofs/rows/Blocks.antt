-- The entries for the cells of one row, one behind the other.
use Rattle.std.proofs.Common.{◌≡◌, ℕ, zero, suc, ◌+◌, ◌<◌, List, [], ◌∷◌, ◌++◌, length, refl, sym, ap, ◌∙◌, inl, inr, arith, Some}
use Rattle.std.specs.Prelude.{slice_get}
use Rattle.std.proofs.lemmas.Bool.{cases_eq}
use Rattle.std.proofs.lemmas.List.{length_push}
use Rattle.std.proofs.lemmas.Option.{slice_get_within, same_Some}
use Rattle.civl_blast.specs.inner.rows.Expanding.{row_entries}
use Rattle.civl_blast.specs.declared.rows.flat.Cell.{Cell}

pub length-entries : (v f n : ℕ) → length (row_entries v f n) ≡ n
length-entries v f zero = refl
length-entries v f (suc n) = length_push (row_entries v f n) (record { variable = v; cell = n; number = f + n }) ∙ omega (arith, length-entries v f n)

abbrev pub entry : ℕ → ℕ → ℕ → Cell
entry v c n = record { variable = v; cell = c; number = n }

pub get-left : (xs ys : List Cell) (i : ℕ) → i < length xs → slice_get (xs ++ ys) i ≡ slice_get xs i
get-left [] ys i h = absurd (omega arith)
get-left (x ∷ xs) ys zero h = refl
get-left (x ∷ xs) ys (suc i) h = get-left xs ys i (omega arith)

pub get-right : (xs ys : List Cell) (i j : ℕ) → i ≡ length xs + j → slice_get (xs ++ ys) i ≡ slice_get ys j
get-right [] ys i j e = ap (slice_get ys) (e ∙ omega arith)
get-right (x ∷ xs) ys zero j e = absurd (omega arith)
get-right (x ∷ xs) ys (suc i) j e = get-right xs ys i j (omega arith)

pub in_block : (v f n c : ℕ) → c < n → slice_get (row_entries v f n) c ≡ Some (entry v c (f + c))
in_block v f zero c h = absurd (omega arith)
in_block v f (suc n) c h = elim (cases_eq c n) [
  | inl e ↦
      get-right (row_entries v f n) (entry v n (f + n) ∷ []) c 0 (omega (arith, length-entries v f n))
      ∙ ap (λ (k : ℕ). Some (entry v k (f + k))) (sym e)
  | inr d ↦
      get-left (row_entries v f n) (entry v n (f + n) ∷ []) c (omega (arith, length-entries v f n))
      ∙ in_block v f n c (omega arith)
]

pub of_block : (v f n c : ℕ) (e : Cell) → slice_get (row_entries v f n) c ≡ Some e → (c < n) × (entry v c (f + c) ≡ e)
of_block v f n c e h =
    let l : c < n = omega (arith, slice_get_within (row_entries v f n) c e h, length-entries v f n) in
    (l, same_Some (entry v c (f + c)) e (sym (in_block v f n c l) ∙ h))
