-- Lists of which each has one for one.
use Rattle.std.proofs.Common.{◌≡◌, ℕ, zero, suc, ◌+◌, ◌<◌, List, [], ◌∷◌, ◌++◌, length, take, get_or, refl, sym, ap, ◌∙◌, subst}
use Rattle.std.specs.Prelude.{Some, IfSome, slice_get}
use Rattle.std.specs.List.{AllZip}
use Rattle.std.proofs.lemmas.List.{take_more}

module _ {A B : Type 0} (R : A → B → Type 0) where
  zip_push : (xs : List A) (ys : List B) (x : A) (y : B) → AllZip R xs ys → R x y → AllZip R (xs ++ x ∷ []) (ys ++ y ∷ [])
  zip_push [] [] x y h k = (k, tt)
  zip_push [] (b ∷ ys) x y h k = absurd h
  zip_push (a ∷ xs) [] x y h k = absurd h
  zip_push (a ∷ xs) (b ∷ ys) x y h k = (h.0, zip_push xs ys x y h.1 k)

  -- one more
  pub zip_more : (xs : List A) (i : ℕ) (x : A) (ys new : List B) (y : B) → i < length xs → x ≡ get_or xs i x → AllZip R (take i xs) ys → R x y → new ≡ ys ++ y ∷ [] → AllZip R (take (i + 1) xs) new
  zip_more xs i x ys new y l e h k n =
      let more : take (i + 1) xs ≡ take i xs ++ x ∷ [] = take_more xs i x l ∙ ap (λ (z : A). take i xs ++ z ∷ []) (sym e) in
      subst (λ (zs : List A). AllZip R zs new) (sym more) (subst (λ (ws : List B). AllZip R (take i xs ++ x ∷ []) ws) (sym n) (zip_push (take i xs) ys x y h k))

  -- both are as long
  pub zip_long : (xs : List A) (ys : List B) → AllZip R xs ys → length xs ≡ length ys
  zip_long [] [] h = refl
  zip_long [] (b ∷ ys) h = absurd h
  zip_long (a ∷ xs) [] h = absurd h
  zip_long (a ∷ xs) (b ∷ ys) h = ap suc (zip_long xs ys h.1)

  -- at each place they are one for the other
  pub zip_there : (xs : List A) (ys : List B) (i : ℕ) (y : B) → AllZip R xs ys → slice_get ys i ≡ Some y → IfSome (slice_get xs i) (λ x. R x y)
  zip_there [] ys i y h e = tt
  zip_there (a ∷ xs) [] i y h e = absurd h
  zip_there (a ∷ xs) (b ∷ ys) zero y h e = let same : b ≡ y = cc in subst (R a) same h.0
  zip_there (a ∷ xs) (b ∷ ys) (suc i) y h e = zip_there xs ys i y h.1 e
