-- Carriers of permissions are pairwise disjoint exactly where each permission is in at most one of them; so a step that hands
-- out no more than it took in keeps them so.
use Rattle.std.proofs.Common.{◌≡◌, ℕ, zero, suc, ◌+◌, ◌<◌, ◌≤◌, Bool, true, false, not, List, [], ◌∷◌, ◌++◌, refl, ap, ◌∙◌, arith, inl, inr}
use Rattle.std.specs.Prelude.{nat_eq}
use Rattle.std.specs.List.{list_all, list_any}
use Rattle.std.proofs.lemmas.Bool.{eqb-true, eq-eqb, and_parts, and_from, or_cases, or_right, or_left, both_ways}
use Rattle.civl_meaning.specs.Permissions.{disjoint, pairwise_disjoint}

abbrev pub has : ℕ → List ℕ → Bool
has p ps = list_any (nat_eq p) ps

abbrev pub one_if : Bool → ℕ
one_if true = 1
one_if false = 0

-- in how many of these carriers a permission is
abbrev pub carriers : ℕ → List (List ℕ) → ℕ
carriers p [] = 0
carriers p (ps ∷ rest) = one_if (has p ps) + carriers p rest

pub all_at : (f : ℕ → Bool) (ps : List ℕ) (p : ℕ) → list_all f ps ≡ true → has p ps ≡ true → f p ≡ true
all_at f [] p e h = absurd cc
all_at f (q ∷ qs) p e h =
    let a = and_parts (f q) (list_all f qs) e in
    elim (or_cases (nat_eq p q) (has p qs) h) [ inl g ↦ ap f (eqb-true p q g) ∙ a.0 | inr g ↦ all_at f qs p a.1 g ]

all_by : (f : ℕ → Bool) (ps : List ℕ) → ((p : ℕ) → has p ps ≡ true → f p ≡ true) → list_all f ps ≡ true
all_by f [] h = refl
all_by f (q ∷ qs) h = and_from (f q) (list_all f qs) (h q (or_left (nat_eq q q) (has q qs) (eq-eqb q q refl))) (all_by f qs (λ p g. h p (or_right (nat_eq p q) (has p qs) g)))

-- ---- one carrier and others

apart_one : (p : ℕ) (ps : List ℕ) (rest : List (List ℕ)) → list_all (disjoint ps) rest ≡ true → has p ps ≡ true → carriers p rest ≡ 0
apart_one p ps [] e h = refl
apart_one p ps (qs ∷ rest) e h =
    let a = and_parts (disjoint ps qs) (list_all (disjoint ps) rest) e in
    let n : not (has p qs) ≡ true = all_at (λ q. not (has q qs)) ps p a.0 h in
    go (has p qs) refl n (apart_one p ps rest a.1 h)
  where
    go : (b : Bool) → has p qs ≡ b → not (has p qs) ≡ true → carriers p rest ≡ 0 → one_if (has p qs) + carriers p rest ≡ 0
    go true i n k = absurd (both_ways (not (has p qs)) (ap not i) n)
    go false i n k = let z = ap one_if i in omega (arith, z, k)

one_apart : (ps : List ℕ) (rest : List (List ℕ)) → ((p : ℕ) → has p ps ≡ true → carriers p rest ≡ 0) → list_all (disjoint ps) rest ≡ true
one_apart ps [] h = refl
one_apart ps (qs ∷ rest) h = and_from (disjoint ps qs) (list_all (disjoint ps) rest) (all_by (λ q. not (has q qs)) ps (λ p g. first p (has p qs) refl (h p g))) (one_apart ps rest (λ p g. let z = h p g in omega (arith, z)))
  where
    first : (p : ℕ) (b : Bool) → has p qs ≡ b → one_if (has p qs) + carriers p rest ≡ 0 → not (has p qs) ≡ true
    first p true i z = let w = ap one_if i in absurd (omega (arith, w, z))
    first p false i z = ap not i

-- ---- pairwise

pub counts_of : (items : List (List ℕ)) → pairwise_disjoint items ≡ true → (p : ℕ) → carriers p items ≤ 1
counts_of [] e p = omega arith
counts_of (ps ∷ rest) e p = go (has p ps) refl (counts_of rest a.1 p)
  where
    a : (list_all (disjoint ps) rest ≡ true) × (pairwise_disjoint rest ≡ true)
    a = and_parts (list_all (disjoint ps) rest) (pairwise_disjoint rest) e

    go : (b : Bool) → has p ps ≡ b → carriers p rest ≤ 1 → one_if (has p ps) + carriers p rest ≤ 1
    go true i k = let z = apart_one p ps rest a.0 i in let w = ap one_if i in omega (arith, z, w)
    go false i k = let w = ap one_if i in omega (arith, w, k)

pub disjoint_by : (items : List (List ℕ)) → ((p : ℕ) → carriers p items ≤ 1) → pairwise_disjoint items ≡ true
disjoint_by [] h = refl
disjoint_by (ps ∷ rest) h =
    and_from (list_all (disjoint ps) rest) (pairwise_disjoint rest)
    (one_apart ps rest (λ p g. let w = ap one_if g in let z = h p in omega (arith, w, z)))
    (disjoint_by rest (λ p. let z = h p in omega (arith, z)))

pub carriers_joined : (p : ℕ) (xs ys : List (List ℕ)) → carriers p (xs ++ ys) ≡ carriers p xs + carriers p ys
carriers_joined p [] ys = omega arith
carriers_joined p (x ∷ xs) ys = let e = carriers_joined p xs ys in omega (arith, e)

-- what is taken in, what is handed out for it, and how often others carry each permission: the handed out are disjoint, and
-- each of their permissions was taken in
pub step_keeps : (taken given : List (List ℕ)) (others : ℕ → ℕ) → pairwise_disjoint given ≡ true → ((p : ℕ) → 0 < carriers p given → 0 < carriers p taken) → ((p : ℕ) → carriers p taken + others p ≤ 1) → (p : ℕ) → carriers p given + others p ≤ 1
step_keeps taken given others d i h p = go (carriers p given) refl
  where
    go : (n : ℕ) → carriers p given ≡ n → carriers p given + others p ≤ 1
    go zero e = let z = h p in omega (arith, e, z)
    go (suc n) e = let z = h p in let c = counts_of given d p in let t = i p (omega (arith, e)) in omega (arith, e, z, c, t)
