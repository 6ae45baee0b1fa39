-- Properties of literals and of lists that are so or not, which tests decide.
use Rattle.std.proofs.Common.{◌⊎◌, zero, suc, List, [], ◌∷◌, refl, inl, inr, arith, Bool, true, false}
use Rattle.std.specs.Prelude.{IsTrue, All, Any, AllPairs}
use Rattle.std.proofs.lemmas.List.Elements.{All-nil, All-cons, All-contains}
use Rattle.std.proofs.lemmas.List.Kept.{AllPairs-cons}
use Rattle.civl_tree.proofs.Pairs.{pairs_head, pairs_tail}

-- it is so, or it isn't
abbrev pub IsOrNot : Type 0 → Type 0
IsOrNot P = P ⊎ (P → ⊥)

pub not_so : {P : Type 0} → IsOrNot P → IsOrNot (P → ⊥)
not_so (inl p) = inr (λ none. none p)
not_so (inr none) = inl none

pub both_so : {P Q : Type 0} → IsOrNot P → IsOrNot Q → IsOrNot (P × Q)
both_so (inl p) (inl q) = inl (p, q)
both_so (inl p) (inr none) = inr (λ both. none both.1)
both_so (inr none) q = inr (λ both. none both.0)

pub either_so : {P Q : Type 0} → IsOrNot P → IsOrNot Q → IsOrNot (P ⊎ Q)
either_so (inl p) q = inl (inl p)
either_so (inr none) (inl q) = inl (inr q)
either_so (inr first) (inr second) = inr (λ either. elim either [ inl p ↦ first p | inr q ↦ second q ])

pub true_so : (b : Bool) → IsOrNot (IsTrue b)
true_so true = inl refl
true_so false = inr (λ e. cc)

-- each element is so, or some element is otherwise
pub all_or_any : {X : Type 0} (P Q : X → Type 0) → ((x : X) → P x ⊎ Q x) → (xs : List X) → All P xs ⊎ Any Q xs
all_or_any P Q test [] = inl (All-nil P)
all_or_any P Q test (x ∷ xs) = elim (test x) [
  | inl here ↦ elim (all_or_any P Q test xs) [
    | inl all ↦ inl (All-cons P x xs here all)
    | inr some ↦ let low = some.2 in inr (suc some.0, some.1, omega arith, some.3, some.4)
  ]
  | inr here ↦ inr (zero, x, omega arith, refl, here)
]

pub all_so : {X : Type 0} (P : X → Type 0) → ((x : X) → IsOrNot (P x)) → (xs : List X) → IsOrNot (All P xs)
all_so P test xs = elim (all_or_any P (λ x. P x → ⊥) test xs) [
  | inl all ↦ inl all
  | inr some ↦ inr (λ all. some.4 (All-contains P xs some.1 all (some.0, some.2, some.3)))
]

none_or : {X : Type 0} (P : X → Type 0) → ((x : X) → IsOrNot (P x)) → (x : X) → (P x → ⊥) ⊎ P x
none_or P test x = elim (test x) [ inl p ↦ inr p | inr none ↦ inl none ]

pub any_so : {X : Type 0} (P : X → Type 0) → ((x : X) → IsOrNot (P x)) → (xs : List X) → IsOrNot (Any P xs)
any_so P test xs = elim (all_or_any (λ x. P x → ⊥) P (none_or P test) xs) [
  | inl none ↦ inr (λ some. All-contains (λ x. P x → ⊥) xs some.1 none (some.0, some.2, some.3) some.4)
  | inr some ↦ inl some
]

pub pairs_so : {X : Type 0} (R : X → X → Type 0) → ((x y : X) → IsOrNot (R x y)) → (xs : List X) → IsOrNot (AllPairs R xs)
pairs_so R test [] = inl (λ i j d less low. absurd (omega arith))
pairs_so R test (x ∷ xs) = elim (all_so (R x) (test x) xs) [
  | inl all ↦ elim (pairs_so R test xs) [
    | inl pairs ↦ inl (AllPairs-cons R x xs all pairs)
    | inr none ↦ inr (λ pairs. none (pairs_tail R x xs pairs))
  ]
  | inr none ↦ inr (λ pairs. none (pairs_head R x xs pairs))
]
