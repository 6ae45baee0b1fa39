-- Two lists whose elements are tied place by place.
use Rattle.std.proofs.Common.{◌≡◌, ◌≢◌, ℕ, zero, suc, List, [], ◌∷◌, ◌++◌, sym, subst, Option, None, Some, slice_get, slice_set, inl, inr}
use Rattle.std.proofs.lemmas.Bool.{cases_eq}
use Rattle.civl_tree.proofs.Lists.{get_other, get_same}

-- what is tied ties the same places
abbrev pub Ties : {A : Type 0} → (ℕ → Option A → Option A → Type 0) → Type 0
Ties {A} P = (u : ℕ) (a : A) → (P u (Some a) None → ⊥) × (P u None (Some a) → ⊥)

-- an element that is put in one place of both
pub set_both : {A : Type 0} (P Q : ℕ → Option A → Option A → Type 0) (xs ys : List A) (t : ℕ) (a b x y : A) → ((u : ℕ) → P u (slice_get xs u) (slice_get ys u)) → slice_get xs t ≡ Some x → slice_get ys t ≡ Some y
    → Q t (Some a) (Some b) → ((u : ℕ) (o p : Option A) → u ≢ t → P u o p → Q u o p) → (u : ℕ) → Q u (slice_get (slice_set xs t a) u) (slice_get (slice_set ys t b) u)
set_both {A} P Q xs ys t a b x y all e f new others u = elim (cases_eq u t) [
  | inl q ↦
      subst (λ (v : ℕ). Q v (slice_get (slice_set xs t a) v) (slice_get (slice_set ys t b) v)) (sym q)
      (subst (λ (o : Option A). Q t o (slice_get (slice_set ys t b) t)) (sym (get_same xs t a x e))
      (subst (λ (o : Option A). Q t (Some a) o) (sym (get_same ys t b y f)) new))
  | inr n ↦
      subst (λ (o : Option A). Q u o (slice_get (slice_set ys t b) u)) (sym (get_other xs t u a n))
      (subst (λ (o : Option A). Q u (slice_get xs u) o) (sym (get_other ys t u b n)) (others u (slice_get xs u) (slice_get ys u) n (all u)))
]

-- one more element behind both
pub push_both : {A : Type 0} (P : ℕ → Option A → Option A → Type 0) (xs ys : List A) (a : A) → Ties P → ((u : ℕ) → P u (Some a) (Some a)) → ((u : ℕ) → P u (slice_get xs u) (slice_get ys u))
    → (u : ℕ) → P u (slice_get (xs ++ a ∷ []) u) (slice_get (ys ++ a ∷ []) u)
push_both P [] [] a ties new all zero = new zero
push_both P [] [] a ties new all (suc u) = all (suc u)
push_both P [] (y ∷ ys) a ties new all u = absurd ((ties zero y).1 (all zero))
push_both P (x ∷ xs) [] a ties new all u = absurd ((ties zero x).0 (all zero))
push_both P (x ∷ xs) (y ∷ ys) a ties new all zero = all zero
push_both P (x ∷ xs) (y ∷ ys) a ties new all (suc u) = push_both (λ v. P (suc v)) xs ys a (λ v. ties (suc v)) (λ v. new (suc v)) (λ v. all (suc v)) u
