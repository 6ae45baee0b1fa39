-- What is said of each element of a list that is put together of others.
use Rattle.std.proofs.Common.{◌≡◌, ℕ, suc, ◌+◌, Bool, true, false, List, [], ◌∷◌, refl, subst, arith, Some}
use Rattle.std.specs.Prelude.{slice_get, flat_map, if◌then◌else◌, All}
use Rattle.std.proofs.lemmas.List.Elements.{All-nil, All-cons, All-append}
use Rattle.civl_conditions.specs.Steps.{each_at}

-- of each element with its number
module _ {A B : Type 0} (P : B → Type 0) (f : ℕ → A → List B) where
  pub each_from : (at : ℕ) (xs : List A) → ((i : ℕ) (x : A) → slice_get xs i ≡ Some x → All P (f (at + i) x)) → All P (each_at f at xs)
  each_from at [] h = All-nil P
  each_from at (x ∷ xs) h =
      let here : at + 0 ≡ at = omega arith in
      All-append P (f at x) (each_at f (at + 1) xs) (subst (λ (n : ℕ). All P (f n x)) here (h 0 x refl)) (each_from (at + 1) xs (λ i y e. subst (λ (n : ℕ). All P (f n y)) (later i) (h (suc i) y e)))
    where
      later : (i : ℕ) → at + suc i ≡ at + 1 + i
      later i = omega arith

  pub all_each : (xs : List A) → ((i : ℕ) (x : A) → slice_get xs i ≡ Some x → All P (f i x)) → All P (each_at f 0 xs)
  all_each xs h = each_from 0 xs (λ i x e. subst (λ (n : ℕ). All P (f n x)) (same i) (h i x e))
    where
      same : (i : ℕ) → i ≡ 0 + i
      same i = omega arith

pub all_flat : {A B : Type 0} (P : B → Type 0) (f : A → List B) (xs : List A) → ((x : A) → All P (f x)) → All P (flat_map f xs)
all_flat P f [] h = All-nil P
all_flat P f (x ∷ xs) h = All-append P (f x) (flat_map f xs) (h x) (all_flat P f xs h)

pub all_given : {A : Type 0} (P : A → Type 0) (xs : List A) → ((x : A) → P x) → All P xs
all_given P [] h = All-nil P
all_given P (x ∷ xs) h = All-cons P x xs (h x) (all_given P xs h)

pub all_one : {A : Type 0} (P : A → Type 0) (x : A) → P x → All P (x ∷ [])
all_one P x h = All-cons P x [] h (All-nil P)

pub one_or_none : {B : Type 0} (P : B → Type 0) (b : Bool) (x : B) → P x → All P (if b then x ∷ [] else [])
one_or_none P true x h = All-cons P x [] h (All-nil P)
one_or_none P false x h = All-nil P
