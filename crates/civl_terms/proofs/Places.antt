-- Elements of a list with one more behind.
use Rattle.std.specs.Prelude.{slice_get}
use Rattle.std.proofs.Common.{◌≡◌, ◌∙◌, ◌⊎◌, ℕ, List, [], ◌∷◌, ◌++◌, length, sym, ap, arith, Some, inl, inr, length-append}
use Rattle.std.proofs.Math.ListN.{get_or-append}
use Rattle.std.proofs.Math.Seq.{get_or-append_seam}
use Rattle.std.proofs.lemmas.Bool.{cases_lt}
use Rattle.std.proofs.lemmas.Option.{get_or_from_slice_get, slice_get_within, slice_get-get_or, same_Some}

module _ {X : Type 0} where
  pub slice_last : (xs : List X) (x : X) → slice_get (xs ++ x ∷ []) (length xs) ≡ Some x
  slice_last xs x =
      slice_get-get_or (xs ++ x ∷ []) (length xs) x (omega (arith, length-append xs (x ∷ [])))
      ∙ ap (λ (y : X). Some y) (get_or-append_seam xs x [] x)

  -- it is one of the first, or the last
  pub slice_either : (xs : List X) (x y : X) (i : ℕ) → slice_get (xs ++ x ∷ []) i ≡ Some y → (slice_get xs i ≡ Some y) ⊎ ((i ≡ length xs) × (x ≡ y))
  slice_either xs x y i e = elim (cases_lt i (length xs)) [
    | inl l ↦ inl (slice_get-get_or xs i y l ∙ ap (λ (z : X). Some z) (sym (get_or-append xs (x ∷ []) y i l) ∙ get_or_from_slice_get (xs ++ x ∷ []) i y y e))
    | inr g ↦
        let k : i ≡ length xs = omega (arith, slice_get_within (xs ++ x ∷ []) i y e, length-append xs (x ∷ [])) in
        inr (k, same_Some x y (sym (slice_last xs x) ∙ sym (ap (slice_get (xs ++ x ∷ [])) k) ∙ e))
  ]
