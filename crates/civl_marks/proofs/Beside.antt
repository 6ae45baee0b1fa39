-- Marks beside the variables, element by element.
use Rattle.std.proofs.Common.{◌≡◌, ◌∙◌, ◌⊎◌, inl, inr, ℕ, suc, ◌+◌, ◌<◌, ◌≤◌, List, [], ◌∷◌, ◌++◌, length, drop, slice_get, slice_index_or, Option, Some, refl, sym, ap, ap₂, arith, min, add-one, drop-cons}
use Rattle.std.proofs.lemmas.Bool.{cases_lt}
use Rattle.std.proofs.lemmas.List.{drop_all}
use Rattle.std.proofs.lemmas.Option.{get_or_from_slice_get}
use Rattle.civl_bits.specs.declared.value.Value.{Value}
use Rattle.civl_conditions.specs.declared.condition.Variable.{Variable}
use Rattle.civl_marks.specs.Marks.{mark_text, marks_text, next_lead}

-- the rest of a list, from an element that is known
drop_here : {A : Type 0} (xs : List A) (i : ℕ) (x : A) → i < length xs → slice_get xs i ≡ Some x → drop i xs ≡ x ∷ drop (i + 1) xs
drop_here xs i x below is = rw (add-one, drop-cons xs i x, get_or_from_slice_get xs i x x is) refl

drop_at : {A : Type 0} (xs : List A) (i : ℕ) (x : A) → i < length xs → x ≡ slice_index_or xs i x → drop i xs ≡ x ∷ drop (i + 1) xs
drop_at xs i x below at = rw (add-one, drop-cons xs i x) (ap (λ z. z ∷ drop (suc i) xs) (sym at))

module _ (lead : List ℕ) (vs : List Variable) (ms : List (Option Value)) (i : ℕ) where
  pub marks_here : (v : Variable) (m : Option Value) → i < length vs → i < length ms → slice_get vs i ≡ Some v → m ≡ slice_index_or ms i m
      → marks_text lead (drop i vs) (drop i ms) ≡ mark_text lead v m ++ marks_text (next_lead lead m) (drop (i + 1) vs) (drop (i + 1) ms)
  marks_here v m below within is at = ap₂ (marks_text lead) (drop_here vs i v below is) (drop_at ms i m within at)

  pub marks_past : min (length vs) (length ms) ≤ i → marks_text lead (drop i vs) (drop i ms) ≡ []
  marks_past past = either (cases_lt i (length vs))
    where
      nothing : (ws : List Variable) → marks_text lead ws [] ≡ []
      nothing [] = refl
      nothing (w ∷ ws) = refl

      either : (i < length vs) ⊎ (length vs ≤ i) → marks_text lead (drop i vs) (drop i ms) ≡ []
      either (inl more) = ap (λ (zs : List (Option Value)). marks_text lead (drop i vs) zs) (drop_all i ms (omega (arith, past, more))) ∙ nothing (drop i vs)
      either (inr none) = ap (λ (zs : List Variable). marks_text lead zs (drop i ms)) (drop_all i vs none)
