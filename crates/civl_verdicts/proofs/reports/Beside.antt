-- What is said of two lists side by side, from a place on.
use Rattle.std.proofs.Common.{◌≡◌, ℕ, ◌+◌, ◌<◌, ◌≤◌, List, [], ◌∷◌, ◌++◌, length, drop, slice_get, Some, refl, ap, ap₂, ◌∙◌, arith, min, ◌⊎◌, inl, inr, add-one, drop-cons}
use Rattle.std.proofs.lemmas.Option.{get_or_from_slice_get}
use Rattle.std.proofs.lemmas.List.{drop_all}
use Rattle.std.proofs.lemmas.Bool.{cases_lt}
use Rattle.civl_verdicts.specs.reports.Values.{beside}

-- the rest of a list, from an element that is known
drop_here : {A : Type 0} (xs : List A) (i : ℕ) (x : A) → i < length xs → slice_get xs i ≡ Some x → drop i xs ≡ x ∷ drop (i + 1) xs
drop_here xs i x below is = rw (add-one, drop-cons xs i x, get_or_from_slice_get xs i x x is) refl

module _ {A B : Type 0} (text : A → B → List ℕ) (xs : List A) (ys : List B) (i : ℕ) where
  pub beside-drop : (x : A) (y : B) → i < length xs → i < length ys → slice_get xs i ≡ Some x → slice_get ys i ≡ Some y → beside text (drop i xs) (drop i ys) ≡ text x y ++ beside text (drop (i + 1) xs) (drop (i + 1) ys)
  beside-drop x y below within is at = ap₂ (beside text) (drop_here xs i x below is) (drop_here ys i y within at)

  beside-end : length xs ≤ i → beside text (drop i xs) (drop i ys) ≡ []
  beside-end past = ap (λ (zs : List A). beside text zs (drop i ys)) (drop_all i xs past)

  beside-none : length ys ≤ i → beside text (drop i xs) (drop i ys) ≡ []
  beside-none past = ap (λ (zs : List B). beside text (drop i xs) zs) (drop_all i ys past) ∙ nothing (drop i xs)
    where
      nothing : (zs : List A) → beside text zs [] ≡ []
      nothing [] = refl
      nothing (z ∷ zs) = refl

  -- no more is left in one of them
  pub beside-past : min (length xs) (length ys) ≤ i → beside text (drop i xs) (drop i ys) ≡ []
  beside-past past = either (cases_lt i (length xs))
    where
      either : (i < length xs) ⊎ (length xs ≤ i) → beside text (drop i xs) (drop i ys) ≡ []
      either (inl more) = beside-none (omega arith)
      either (inr none) = beside-end none
