-- Sums, part by part.
use Rattle.std.proofs.Common.{◌≡◌, ℕ, ◌+◌, ◌<◌, ◌≤◌, Bool, true, false, List, [], ◌∷◌, ◌++◌, map, take, length, get_or, refl, arith, sym, ap, ◌∙◌}
use Rattle.std.specs.Prelude.{filter, if◌then◌else◌}
use Rattle.std.proofs.lemmas.List.{take_more, take_all, map-append}
use Rattle.civl_tree.specs.rules.StoreSize.{bits_of}
use Rattle.civl_conditions.specs.declared.condition.Variable.{Variable}
use Rattle.civl_conditions.specs.Weights.{summed, bits_of_variables}
use Rattle.civl_weighing.specs.declared.weight.Weight.{Weight}
use Rattle.civl_weighing.specs.Weighing.{Weighs, IsSum}
use Rattle.civl_weighing.proofs.Capping.{sum_weighs, weighs_same}

pub summed_append : (ms ns : List ℕ) → summed (ms ++ ns) ≡ summed ms + summed ns
summed_append [] ns = omega arith
summed_append (m ∷ ms) ns = omega (arith, summed_append ms ns)

-- one more
pub summed_more : {A : Type 0} (f : A → ℕ) (xs : List A) (i : ℕ) (x : A) → i < length xs → x ≡ get_or xs i x → summed (map f (take (i + 1) xs)) ≡ summed (map f (take i xs)) + f x
summed_more f xs i x l e =
    ap (λ ys. summed (map f ys)) (take_more xs i x l ∙ ap (λ y. take i xs ++ y ∷ []) (sym e))
    ∙ ap summed (map-append f (take i xs) (x ∷ []))
    ∙ summed_append (map f (take i xs)) (f x ∷ [])
    ∙ omega arith

module _ {A : Type 0} (f : A → ℕ) (xs : List A) (i : ℕ) (x : A) where
  pub one_more : i < length xs → x ≡ get_or xs i x → {total w sum : Weight} → IsSum total w sum → Weighs w (f x) → Weighs total (summed (map f (take i xs))) → Weighs sum (summed (map f (take (i + 1) xs)))
  one_more l e s h k = weighs_same (sym (summed_more f xs i x l e)) (sum_weighs s k h)

-- one more, of items that are copied
pub one_more_at : {A : Type 0} (f : A → ℕ) (xs : List A) (i : ℕ) (d : A) → i < length xs → {total w sum : Weight} → IsSum total w sum → Weighs w (f (get_or xs i d)) → Weighs total (summed (map f (take i xs))) → Weighs sum (summed (map f (take (i + 1) xs)))
one_more_at f xs i d l s h k =
    weighs_same (sym (ap (λ ys. summed (map f ys)) (take_more xs i d l) ∙ ap summed (map-append f (take i xs) (get_or xs i d ∷ [])) ∙ summed_append (map f (take i xs)) (f (get_or xs i d) ∷ []) ∙ omega arith)) (sum_weighs s k h)

-- all
pub whole : {A : Type 0} (f : A → ℕ) (xs : List A) (i : ℕ) {w : Weight} → length xs ≤ i → Weighs w (summed (map f (take i xs))) → Weighs w (summed (map f xs))
whole f xs i l h = weighs_same (ap (λ ys. summed (map f ys)) (take_all i xs l)) h

-- ---- what is counted

module _ {A : Type 0} (p : A → Bool) where
  one_counted : (x : A) (xs : List A) (n : ℕ) (b : Bool) → n ≡ length (filter p xs) → (if b then 1 else 0) + n ≡ length (if b then x ∷ filter p xs else filter p xs)
  one_counted x xs n true h = omega arith
  one_counted x xs n false h = omega arith

  pub counted : (xs : List A) → summed (map (λ x. if p x then 1 else 0) xs) ≡ length (filter p xs)
  counted [] = refl
  counted (x ∷ xs) = one_counted x xs _ (p x) (counted xs)

  one_kept : (f : A → ℕ) (x : A) (xs : List A) (n : ℕ) (b : Bool) → n ≡ summed (map f (filter p xs)) → (if b then f x else 0) + n ≡ summed (map f (if b then x ∷ filter p xs else filter p xs))
  one_kept f x xs n true h = ap (λ (m : ℕ). f x + m) h
  one_kept f x xs n false h = omega arith

  pub kept : (f : A → ℕ) (xs : List A) → summed (map (λ x. if p x then f x else 0) xs) ≡ summed (map f (filter p xs))
  kept f [] = refl
  kept f (x ∷ xs) = one_kept f x xs _ (p x) (kept f xs)

-- ---- the bits of variables

pub bits_append : (us vs : List Variable) → bits_of_variables (us ++ vs) ≡ bits_of_variables us + bits_of_variables vs
bits_append us vs = ap summed (map-append (λ v. bits_of v.sort) us vs) ∙ summed_append (map (λ v. bits_of v.sort) us) (map (λ v. bits_of v.sort) vs)

pub bits_mapped : {A : Type 0} (v : A → Variable) (xs : List A) → bits_of_variables (map v xs) ≡ summed (map (λ x. bits_of (v x).sort) xs)
bits_mapped v [] = refl
bits_mapped v (x ∷ xs) = ap (λ (n : ℕ). bits_of (v x).sort + n) (bits_mapped v xs)
