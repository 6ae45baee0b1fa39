-- Elements of lists, and pairs of them.
use Rattle.std.proofs.Common.{◌≡◌, ℕ, zero, suc, ◌⊎◌, inl, inr, List, [], ◌∷◌, ◌++◌, map, Some, slice_get, refl, ap, arith}
use Rattle.std.specs.List.{All, AllPairs, Contains}
use Rattle.std.proofs.lemmas.Option.{slice_get_within, get_or_from_slice_get}
use Rattle.std.proofs.lemmas.List.Elements.{All-nil, All-head, All-tail, All-append, All-map}
use Rattle.std.proofs.lemmas.List.Kept.{AllPairs-cons}

-- ---- elements

module _ {A : Type 0} where
  pub contains_nil : (x : A) → Contains [] x → ⊥
  contains_nil x h = let l = h.1 in omega arith

  pub contains_here : (x : A) (xs : List A) → Contains (x ∷ xs) x
  contains_here x xs = (0, omega arith, refl)

  pub contains_there : (x : A) (xs : List A) (y : A) → Contains xs y → Contains (x ∷ xs) y
  contains_there x xs y h = let l = h.1 in (suc h.0, omega arith, h.2)

  pub contains_cons : (x : A) (xs : List A) (y : A) → Contains (x ∷ xs) y → (x ≡ y) ⊎ Contains xs y
  contains_cons x xs y (zero, l, e) = inl e
  contains_cons x xs y (suc k, l, e) = inr (k, omega arith, e)

  pub contains_one : (x y : A) → Contains (x ∷ []) y → x ≡ y
  contains_one x y h = elim (contains_cons x [] y h) [ inl e ↦ e | inr none ↦ absurd (contains_nil y none) ]

  pub contains_at : (xs : List A) (i : ℕ) (x : A) → slice_get xs i ≡ Some x → Contains xs x
  contains_at xs i x e = (i, slice_get_within xs i x e, get_or_from_slice_get xs i x x e)

module _ {A B : Type 0} (f : A → B) where
  pub contains_map : (xs : List A) (x : A) → Contains xs x → Contains (map f xs) (f x)
  contains_map [] x h = absurd (contains_nil x h)
  contains_map (y ∷ ys) x h =
      elim (contains_cons y ys x h) [ inl e ↦ (0, omega arith, ap f e) | inr there ↦ contains_there (f y) (map f ys) (f x) (contains_map ys x there) ]

  pub from_map : (xs : List A) (y : B) → Contains (map f xs) y → (x : A) × Contains xs x × (f x ≡ y)
  from_map [] y h = absurd (contains_nil y h)
  from_map (x ∷ xs) y h =
      elim (contains_cons (f x) (map f xs) y h) [
        | inl e ↦ (x, contains_here x xs, e)
        | inr there ↦ let found = from_map xs y there in (found.0, contains_there x xs found.0 found.1, found.2)
      ]

-- ---- pairs

module _ {A : Type 0} (R : A → A → Type 0) where
  pub pairs_nil : AllPairs R []
  pairs_nil i j d lt within = absurd (omega arith)

  pub pairs_one : (x : A) → AllPairs R (x ∷ [])
  pairs_one x = AllPairs-cons R x [] (All-nil (R x)) pairs_nil

  pub pairs_head : (x : A) (xs : List A) → AllPairs R (x ∷ xs) → All (R x) xs
  pairs_head x xs h k d within = h zero (suc k) d (omega arith) (omega arith)

  pub pairs_tail : (x : A) (xs : List A) → AllPairs R (x ∷ xs) → AllPairs R xs
  pairs_tail x xs h i j d lt within = h (suc i) (suc j) d (omega arith) (omega arith)

  pub pairs_append : (xs ys : List A) → AllPairs R xs → AllPairs R ys → All (λ x. All (R x) ys) xs → AllPairs R (xs ++ ys)
  pairs_append [] ys h k across = k
  pairs_append (x ∷ xs) ys h k across =
      AllPairs-cons R x (xs ++ ys) (All-append (R x) xs ys (pairs_head x xs h) (All-head (λ z. All (R z) ys) x xs across))
      (pairs_append xs ys (pairs_tail x xs h) k (All-tail (λ z. All (R z) ys) x xs across))

pub pairs_map : {A B : Type 0} (R : B → B → Type 0) (f : A → B) (xs : List A) → AllPairs (λ x y. R (f x) (f y)) xs → AllPairs R (map f xs)
pairs_map R f [] h = pairs_nil R
pairs_map R f (x ∷ xs) h =
    AllPairs-cons R (f x) (map f xs) (All-map (R (f x)) f xs (pairs_head (λ y z. R (f y) (f z)) x xs h)) (pairs_map R f xs (pairs_tail (λ y z. R (f y) (f z)) x xs h))

pub pairs_weaker : {A : Type 0} (R S : A → A → Type 0) → ((x y : A) → R x y → S x y) → (xs : List A) → AllPairs R xs → AllPairs S xs
pairs_weaker R S f xs h i j d lt within = f _ _ (h i j d lt within)
