-- Flags for the names of a procedure: names that were taken out are put back, and values are set under names that weren't held.
use Rattle.std.proofs.Common.{◌≡◌, ℕ, zero, suc, ◌+◌, ◌≤◌, Bool, true, false, not, ◌&&◌, ◌||◌, List, [], ◌∷◌, refl, sym, ap, ◌∙◌, arith, Some, slice_set, slice_index_or, add-one, inl, inr, ◌⊎◌}
use Rattle.std.specs.Prelude.{if◌then◌else◌}
use Rattle.std.proofs.lemmas.Bool.{false≢true, or_parts, or_left, or_right, or_cases, and_parts, false_from_ne_true, both_ways}
use Rattle.civl_bits.specs.declared.value.Value.{Value}
use Rattle.civl_firing.specs.values.Operators.{nothing}
use Rattle.civl_tree.specs.declared.name.Name.{Name}
use Rattle.civl_tree.specs.rules.Names.{same_name, has_name, any_twice}
use Rattle.civl_firing.specs.Truth.{place_of}
use Rattle.civl_firing.specs.Eval.{look}
use Rattle.civl_meaning.specs.Permissions.{permissions_of_word}
use Rattle.civl_linear.specs.Held.{holds, without_names, with_names}
use Rattle.civl_linear.specs.Lengths.{OneEach}
use Rattle.civl_linear.proofs.Beside.{without_names_each}
use Rattle.civl_reduction.proofs.permissions.Counting.{has, one_if, carriers}
use Rattle.civl_reduction.proofs.permissions.Flags.{IsWithin, amount, within_less, same_back, has_same, under}

-- ---- names that were taken out

-- a name that isn't there takes nothing out
without_absent : (x : Name) (names : List Name) (f : List Bool) → OneEach names f → has_name names x ≡ false → IsWithin f (without_names (x ∷ []) names f)
without_absent x [] [] e n i h = absurd cc
without_absent x [] (b ∷ f) e n i h = absurd (omega (arith, e))
without_absent x (m ∷ ns) [] e n i h = absurd cc
without_absent x (m ∷ ns) (b ∷ f) e n zero h = go b (same_name m x) refl h
  where
    go : (b c : Bool) → same_name m x ≡ c → ◌≡◌ {A = _} (Some b) (Some true) → ◌≡◌ {A = _} (Some (b && not (c || false))) (Some true)
    go true true p k = absurd (both_ways (same_name x m) (or_parts (same_name x m) (has_name ns x) n).0 (same_back m x p))
    go true false p k = refl
    go false c p k = absurd cc
without_absent x (m ∷ ns) (b ∷ f) e n (suc i) h = without_absent x ns f (omega (arith, e)) (or_parts (same_name x m) (has_name ns x) n).1 i h

-- one name took no more with it than its value
one_back : (p : ℕ) (names : List Name) (x : Name) (f : List Bool) (vs : List Value) → any_twice names ≡ false → OneEach names f
    → amount p f vs ≤ amount p (without_names (x ∷ []) names f) vs + one_if (has p (permissions_of_word (look names vs x)))
one_back p [] x [] vs t e = omega arith
one_back p [] x (b ∷ f) vs t e = absurd (omega (arith, e))
one_back p (n ∷ ns) x [] vs t e = omega arith
one_back p (n ∷ ns) x (b ∷ f) [] t e = omega arith
one_back p (n ∷ ns) x (b ∷ f) (v ∷ vs) t e = go b (same_name n x) refl (one_back p ns x f vs (or_parts (has_name ns n) (any_twice ns) t).1 (omega (arith, e)))
  where
    place : ℕ
    place = place_of ns x

    absent : same_name n x ≡ true → amount p f vs ≤ amount p (without_names (x ∷ []) ns f) vs
    absent q =
        let none = false_from_ne_true (has_name ns x) (λ k. both_ways (has_name ns n) (or_parts (has_name ns n) (any_twice ns) t).0 (has_same ns x n (same_back n x q) k)) in
        within_less p f (without_names (x ∷ []) ns f) vs (without_absent x ns f (omega (arith, e)) none)

    go : (b c : Bool) → same_name n x ≡ c
        → amount p f vs ≤ amount p (without_names (x ∷ []) ns f) vs + one_if (has p (permissions_of_word (look ns vs x)))
        → amount p (b ∷ f) (v ∷ vs) ≤ amount p ((b && not (c || false)) ∷ without_names (x ∷ []) ns f) (v ∷ vs) + one_if (has p (permissions_of_word (slice_index_or (v ∷ vs) (if c then 0 else place + 1) nothing)))
    go true true q ih = let r = absent q in omega (arith, r)
    go false true q ih = let r = absent q in omega (arith, r)
    go true false q ih = rw (add-one place) (omega (arith, ih))
    go false false q ih = rw (add-one place) (omega (arith, ih))

without_each : (x : Name) (gone names : List Name) (f : List Bool) → IsWithin (without_names gone names (without_names (x ∷ []) names f)) (without_names (x ∷ gone) names f)
without_each x gone [] f i e = absurd cc
without_each x gone (n ∷ ns) [] i e = absurd cc
without_each x gone (n ∷ ns) (b ∷ f) zero e = go b (same_name n x) (has_name gone n) e
  where
    go : (b c d : Bool) → ◌≡◌ {A = _} (Some ((b && not (c || false)) && not d)) (Some true) → ◌≡◌ {A = _} (Some (b && not (c || d))) (Some true)
    go true false false k = refl
    go true false true k = absurd cc
    go true true d k = absurd cc
    go false c d k = absurd cc
without_each x gone (n ∷ ns) (b ∷ f) (suc i) e = without_each x gone ns f i e

-- and so do several
pub all_back : (p : ℕ) (names : List Name) (vs : List Value) → any_twice names ≡ false → (xs : List Name) (f : List Bool) → OneEach names f
    → amount p f vs ≤ amount p (without_names xs names f) vs + carriers p (under names vs xs)
all_back p names vs t [] f e = let r = within_less p f (without_names [] names f) vs (all names f e) in omega (arith, r)
  where
    all : (ns : List Name) (f : List Bool) → OneEach ns f → IsWithin f (without_names [] ns f)
    all [] [] e i h = h
    all [] (b ∷ f) e i h = absurd (omega (arith, e))
    all (n ∷ ns) [] e i h = absurd cc
    all (n ∷ ns) (true ∷ f) e zero h = refl
    all (n ∷ ns) (false ∷ f) e zero h = absurd cc
    all (n ∷ ns) (b ∷ f) e (suc i) h = all ns f (omega (arith, e)) i h
all_back p names vs t (x ∷ xs) f e =
    let one = one_back p names x f vs t e in
    let rest = all_back p names vs t xs (without_names (x ∷ []) names f) (without_names_each (x ∷ []) names f e) in
    let less = within_less p _ (without_names (x ∷ xs) names f) vs (without_each x xs names f) in
    omega (arith, one, rest, less)

-- ---- values that are set

-- under a name that isn't held
pub set_apart : (p : ℕ) (names : List Name) (x : Name) (f : List Bool) (vs : List Value) (v : Value) → OneEach names f → holds names f x ≡ false → amount p f (slice_set vs (place_of names x) v) ≤ amount p f vs
set_apart p [] x [] vs v e h = omega arith
set_apart p [] x (b ∷ f) vs v e h = absurd (omega (arith, e))
set_apart p (n ∷ ns) x [] vs v e h = omega arith
set_apart p (n ∷ ns) x (b ∷ f) [] v e h = omega arith
set_apart p (n ∷ ns) x (b ∷ f) (w ∷ vs) v e h = go b (same_name n x) (or_parts (b && same_name n x) (holds ns f x) h).0 (set_apart p ns x f vs v (omega (arith, e)) (or_parts (b && same_name n x) (holds ns f x) h).1)
  where
    place : ℕ
    place = place_of ns x

    go : (b c : Bool) → (b && c) ≡ false → amount p f (slice_set vs place v) ≤ amount p f vs → amount p (b ∷ f) (slice_set (w ∷ vs) (if c then 0 else place + 1) v) ≤ amount p (b ∷ f) (w ∷ vs)
    go true true k ih = absurd (false≢true (sym k))
    go false true k ih = omega arith
    go true false k ih = rw (add-one place) (omega (arith, ih))
    go false false k ih = rw (add-one place) (omega (arith, ih))

with_absent : (x : Name) (names : List Name) (f : List Bool) → has_name names x ≡ false → IsWithin (with_names (x ∷ []) names f) f
with_absent x [] f n i h = absurd cc
with_absent x (m ∷ ns) [] n i h = absurd cc
with_absent x (m ∷ ns) (b ∷ f) n zero h = go b (same_name m x) refl h
  where
    go : (b c : Bool) → same_name m x ≡ c → ◌≡◌ {A = _} (Some (b || (c || false))) (Some true) → ◌≡◌ {A = _} (Some b) (Some true)
    go true c p k = refl
    go false true p k = absurd (both_ways (same_name x m) (or_parts (same_name x m) (has_name ns x) n).0 (same_back m x p))
    go false false p k = absurd cc
with_absent x (m ∷ ns) (b ∷ f) n (suc i) h = with_absent x ns f (or_parts (same_name x m) (has_name ns x) n).1 i h

-- under a name that becomes held by this
pub set_held : (p : ℕ) (names : List Name) (x : Name) (f : List Bool) (vs : List Value) (v : Value) → any_twice names ≡ false → holds names f x ≡ false
    → amount p (with_names (x ∷ []) names f) (slice_set vs (place_of names x) v) ≤ amount p f vs + one_if (has p (permissions_of_word v))
set_held p [] x f vs v t h = omega arith
set_held p (n ∷ ns) x [] vs v t h = omega arith
set_held p (n ∷ ns) x (b ∷ f) [] v t h = omega arith
set_held p (n ∷ ns) x (b ∷ f) (w ∷ vs) v t h =
    go b (same_name n x) refl (or_parts (b && same_name n x) (holds ns f x) h).0 (set_held p ns x f vs v (or_parts (has_name ns n) (any_twice ns) t).1 (or_parts (b && same_name n x) (holds ns f x) h).1)
  where
    place : ℕ
    place = place_of ns x

    absent : same_name n x ≡ true → amount p (with_names (x ∷ []) ns f) vs ≤ amount p f vs
    absent q =
        let none = false_from_ne_true (has_name ns x) (λ k. both_ways (has_name ns n) (or_parts (has_name ns n) (any_twice ns) t).0 (has_same ns x n (same_back n x q) k)) in
        within_less p (with_names (x ∷ []) ns f) f vs (with_absent x ns f none)

    go : (b c : Bool) → same_name n x ≡ c → (b && c) ≡ false
        → amount p (with_names (x ∷ []) ns f) (slice_set vs place v) ≤ amount p f vs + one_if (has p (permissions_of_word v))
        → amount p ((b || (c || false)) ∷ with_names (x ∷ []) ns f) (slice_set (w ∷ vs) (if c then 0 else place + 1) v) ≤ amount p (b ∷ f) (w ∷ vs) + one_if (has p (permissions_of_word v))
    go true true q k ih = absurd (false≢true (sym k))
    go false true q k ih = let r = absent q in omega (arith, r)
    go true false q k ih = rw (add-one place) (omega (arith, ih))
    go false false q k ih = rw (add-one place) (omega (arith, ih))

-- ---- names that become held

-- what is held then was held before or is one of them
pub holds_with : (new names : List Name) (f : List Bool) (x : Name) → holds names (with_names new names f) x ≡ true → (holds names f x ≡ true) ⊎ (has_name new x ≡ true)
holds_with new [] f x h = absurd (false≢true h)
holds_with new (n ∷ ns) [] x h = absurd (false≢true h)
holds_with new (n ∷ ns) (b ∷ f) x h = go b (same_name n x) refl (has_name new n) refl (holds_with new ns f x) h
  where
    go : (b c : Bool) → same_name n x ≡ c → (d : Bool) → has_name new n ≡ d → (holds ns (with_names new ns f) x ≡ true → (holds ns f x ≡ true) ⊎ (has_name new x ≡ true))
        → (((b || d) && c) || holds ns (with_names new ns f) x) ≡ true → (((b && c) || holds ns f x) ≡ true) ⊎ (has_name new x ≡ true)
    go true true p d q ih k = inl refl
    go false true p true q ih k = inr (has_same new n x p q)
    go b c p d q ih k = elim (or_cases ((b || d) && c) _ k) [
      | inl r ↦ elim (or_cases b d (and_parts (b || d) c r).0) [
        | inl u ↦ inl (or_left (b && c) (holds ns f x) (both u (and_parts (b || d) c r).1))
        | inr u ↦ inr (has_same new n x (p ∙ (and_parts (b || d) c r).1) (q ∙ u))
      ]
      | inr r ↦ elim (ih r) [ inl u ↦ inl (or_right (b && c) (holds ns f x) u) | inr u ↦ inr u ]
    ]
      where
        both : b ≡ true → c ≡ true → (b && c) ≡ true
        both e g = ap (λ (z : Bool). z && c) e ∙ g

-- several become held one behind the other
pub with_both : (x : Name) (new names : List Name) (f : List Bool) → IsWithin (with_names (x ∷ new) names f) (with_names new names (with_names (x ∷ []) names f))
with_both x new [] f i e = absurd cc
with_both x new (n ∷ ns) [] i e = absurd cc
with_both x new (n ∷ ns) (b ∷ f) zero e = go b (same_name n x) (has_name new n) e
  where
    go : (b c d : Bool) → ◌≡◌ {A = _} (Some (b || (c || d))) (Some true) → ◌≡◌ {A = _} (Some ((b || (c || false)) || d)) (Some true)
    go true c d k = refl
    go false true d k = refl
    go false false d k = k
with_both x new (n ∷ ns) (b ∷ f) (suc i) e = with_both x new ns f i e
