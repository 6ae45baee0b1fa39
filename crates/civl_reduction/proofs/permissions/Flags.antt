-- Flags for the names of a procedure: the permissions of the values that have them, when names are taken out of them and
-- put in.
use Rattle.std.proofs.Common.{◌≡◌, ℕ, zero, suc, ◌+◌, ◌≤◌, Bool, true, false, not, ◌&&◌, ◌||◌, List, [], ◌∷◌, length, map, refl, sym, ◌∙◌, subst, arith, Some, slice_get, slice_index_or, add-one, inl, inr, ◌⊎◌}
use Rattle.std.specs.Prelude.{if◌then◌else◌}
use Rattle.std.specs.List.{list_all}
use Rattle.std.proofs.lemmas.Bool.{false≢true, or_parts, or_left, or_right, or_cases, and_parts, and_from, false_from_ne_true, both_ways}
use Rattle.civl_bits.specs.declared.value.Value.{Value}
use Rattle.civl_firing.specs.values.Operators.{nothing}
use Rattle.civl_tree.specs.declared.name.Name.{Name}
use Rattle.civl_tree.specs.rules.Names.{same_name, has_name, any_twice}
use Rattle.civl_tree.proofs.Naming.{same_is, is_same}
use Rattle.civl_firing.specs.Truth.{place_of}
use Rattle.civl_firing.specs.Eval.{look}
use Rattle.civl_meaning.specs.Permissions.{permissions_of_word}
use Rattle.civl_linear.specs.Held.{holds, without_names, both_held, covers}
use Rattle.civl_reduction.specs.permissions.Owned.{of_flagged}
use Rattle.civl_reduction.proofs.permissions.Counting.{has, one_if, carriers}

-- ---- flags that lie in others

abbrev pub IsWithin : List Bool → List Bool → Type 0
IsWithin f g = (i : ℕ) → slice_get f i ≡ Some true → slice_get g i ≡ Some true

pub within_then : (f g h : List Bool) → IsWithin f g → IsWithin g h → IsWithin f h
within_then f g h a b i e = b i (a i e)

pub covers_within : (f g : List Bool) → length f ≡ length g → covers f g ≡ true → IsWithin f g
covers_within [] g n e i h = absurd cc
covers_within (a ∷ f) [] n e i h = absurd cc
covers_within (a ∷ f) (b ∷ g) n e zero h = go a b e h
  where
    go : (a b : Bool) → ((not a || b) && covers f g) ≡ true → ◌≡◌ {A = _} (Some a) (Some true) → ◌≡◌ {A = _} (Some b) (Some true)
    go true true k j = refl
    go true false k j = absurd (false≢true k)
    go false b k j = absurd cc
covers_within (a ∷ f) (b ∷ g) n e (suc i) h = covers_within f g (omega (arith, n)) (go (not a || b) e) i h
  where
    go : (c : Bool) → (c && covers f g) ≡ true → covers f g ≡ true
    go true k = k
    go false k = absurd (false≢true k)

pub both_first : (f g : List Bool) → IsWithin (both_held f g) f
both_first [] g i e = absurd cc
both_first (a ∷ f) [] i e = absurd cc
both_first (a ∷ f) (b ∷ g) zero e = go a e
  where
    go : (c : Bool) → ◌≡◌ {A = _} (Some (c && b)) (Some true) → ◌≡◌ {A = _} (Some c) (Some true)
    go true k = refl
    go false k = absurd cc
both_first (a ∷ f) (b ∷ g) (suc i) e = both_first f g i e

pub both_second : (f g : List Bool) → IsWithin (both_held f g) g
both_second [] g i e = absurd cc
both_second (a ∷ f) [] i e = absurd cc
both_second (a ∷ f) (b ∷ g) zero e = go a e
  where
    go : (c : Bool) → ◌≡◌ {A = _} (Some (c && b)) (Some true) → ◌≡◌ {A = _} (Some b) (Some true)
    go true k = k
    go false k = absurd cc
both_second (a ∷ f) (b ∷ g) (suc i) e = both_second f g i e

-- ---- how many of the flagged values carry a permission

abbrev pub amount : ℕ → List Bool → List Value → ℕ
amount p f vs = carriers p (of_flagged f vs)

pub amount_more : (p : ℕ) (b : Bool) (f : List Bool) (v : Value) (vs : List Value) → amount p (b ∷ f) (v ∷ vs) ≡ one_if (b && has p (permissions_of_word v)) + amount p f vs
amount_more p true f v vs = refl
amount_more p false f v vs = omega arith

pub within_less : (p : ℕ) (f g : List Bool) (vs : List Value) → IsWithin f g → amount p f vs ≤ amount p g vs
within_less p [] g vs h = omega arith
within_less p (b ∷ f) g [] h = omega arith
within_less p (b ∷ f) [] (v ∷ vs) h = go b h (within_less p f [] vs (λ i e. absurd (let q = h (suc i) e in cc)))
  where
    go : (c : Bool) → IsWithin (c ∷ f) [] → amount p f vs ≤ 0 → amount p (c ∷ f) (v ∷ vs) ≤ 0
    go true k r = absurd (let e = k 0 refl in cc)
    go false k r = let m = amount_more p false f v vs in omega (arith, r, m)
within_less p (b ∷ f) (c ∷ g) (v ∷ vs) h = go b c h (within_less p f g vs (λ i e. h (suc i) e))
  where
    go : (b c : Bool) → IsWithin (b ∷ f) (c ∷ g) → amount p f vs ≤ amount p g vs → amount p (b ∷ f) (v ∷ vs) ≤ amount p (c ∷ g) (v ∷ vs)
    go true true k r = omega (arith, r)
    go true false k r = absurd (let e = k 0 refl in cc)
    go false true k r = let m = amount_more p false f v vs in let n = amount_more p true g v vs in omega (arith, r, m, n)
    go false false k r = omega (arith, r)

-- ---- names

-- a name that is one of these, by any name that is the same
pub has_same : (names : List Name) (a b : Name) → same_name a b ≡ true → has_name names a ≡ true → has_name names b ≡ true
has_same names a b e h = subst (λ (n : Name). has_name names n ≡ true) (same_is a b e) h

pub same_back : (a b : Name) → same_name a b ≡ true → same_name b a ≡ true
same_back a b e = is_same b a (sym (same_is a b e))

-- what is held is one of the names
pub holds_has : (names : List Name) (f : List Bool) (x : Name) → holds names f x ≡ true → has_name names x ≡ true
holds_has [] f x h = absurd (false≢true h)
holds_has (n ∷ ns) [] x h = absurd (false≢true h)
holds_has (n ∷ ns) (b ∷ f) x h = go (holds_has ns f x) (or_cases (b && same_name n x) (holds ns f x) h)
  where
    go : (holds ns f x ≡ true → has_name ns x ≡ true) → ((b && same_name n x) ≡ true) ⊎ (holds ns f x ≡ true) → (same_name x n || has_name ns x) ≡ true
    go ih (inl e) = or_left (same_name x n) (has_name ns x) (same_back n x (and_parts b (same_name n x) e).1)
    go ih (inr e) = or_right (same_name x n) (has_name ns x) (ih e)

pub holds_within : (names : List Name) (f g : List Bool) (x : Name) → IsWithin f g → holds names f x ≡ true → holds names g x ≡ true
holds_within [] f g x w h = absurd (false≢true h)
holds_within (n ∷ ns) [] g x w h = absurd (false≢true h)
holds_within (n ∷ ns) (b ∷ f) [] x w h = go b w (holds_within ns f [] x (λ i e. absurd (let q = w (suc i) e in cc))) h
  where
    go : (c : Bool) → IsWithin (c ∷ f) [] → (holds ns f x ≡ true → holds ns [] x ≡ true) → ((c && same_name n x) || holds ns f x) ≡ true → false ≡ true
    go true k ih e = absurd (let q = k 0 refl in cc)
    go false k ih e = none ns (ih e)
      where
        none : (ns : List Name) → holds ns [] x ≡ true → false ≡ true
        none [] e = e
        none (n ∷ ns) e = e
holds_within (n ∷ ns) (b ∷ f) (c ∷ g) x w h = go b c w (holds_within ns f g x (λ i e. w (suc i) e)) h
  where
    go : (b c : Bool) → IsWithin (b ∷ f) (c ∷ g) → (holds ns f x ≡ true → holds ns g x ≡ true) → ((b && same_name n x) || holds ns f x) ≡ true → ((c && same_name n x) || holds ns g x) ≡ true
    go true true k ih e = elim (or_cases (same_name n x) (holds ns f x) e) [ inl q ↦ or_left _ _ q | inr q ↦ or_right (same_name n x) _ (ih q) ]
    go true false k ih e = absurd (let q = k 0 refl in cc)
    go false c k ih e = or_right (c && same_name n x) (holds ns g x) (ih e)

-- ---- taking names out

pub without_within : (gone names : List Name) (f : List Bool) → IsWithin (without_names gone names f) f
without_within gone [] f i e = absurd cc
without_within gone (n ∷ ns) [] i e = absurd cc
without_within gone (n ∷ ns) (b ∷ f) zero e = go b e
  where
    go : (c : Bool) → ◌≡◌ {A = _} (Some (c && not (has_name gone n))) (Some true) → ◌≡◌ {A = _} (Some c) (Some true)
    go true k = refl
    go false k = absurd cc
without_within gone (n ∷ ns) (b ∷ f) (suc i) e = without_within gone ns f i e

-- fewer names out of fewer flags
pub without_more : (gone more names : List Name) (f g : List Bool) → ((n : Name) → has_name gone n ≡ true → has_name more n ≡ true) → IsWithin f g → IsWithin (without_names more names f) (without_names gone names g)
without_more gone more [] f g h w i e = absurd cc
without_more gone more (n ∷ ns) [] g h w i e = absurd cc
without_more gone more (n ∷ ns) (b ∷ f) [] h w i e = absurd (let q = w i (without_within more (n ∷ ns) (b ∷ f) i e) in cc)
without_more gone more (n ∷ ns) (b ∷ f) (c ∷ g) h w zero e = go b (has_name gone n) (has_name more n) refl refl w e
  where
    go : (b x y : Bool) → has_name gone n ≡ x → has_name more n ≡ y → IsWithin (b ∷ f) (c ∷ g) → ◌≡◌ {A = _} (Some (b && not y)) (Some true) → ◌≡◌ {A = _} (Some (c && not x)) (Some true)
    go true false false p q k j = let r = k 0 refl in cc
    go true true false p q k j = absurd (both_ways (has_name more n) q (h n p))
    go true x true p q k j = absurd cc
    go false x y p q k j = absurd cc
without_more gone more (n ∷ ns) (b ∷ f) (c ∷ g) h w (suc i) e = without_more gone more ns f g h (λ j k. w (suc j) k) i e

-- one name out behind the others
pub without_both : (x : Name) (gone names : List Name) (f : List Bool) → IsWithin (without_names (x ∷ gone) names f) (without_names gone names (without_names (x ∷ []) names f))
without_both x gone [] f i e = absurd cc
without_both x gone (n ∷ ns) [] i e = absurd cc
without_both x gone (n ∷ ns) (b ∷ f) zero e = go b (same_name n x) (has_name gone n) e
  where
    go : (b c d : Bool) → ◌≡◌ {A = _} (Some (b && not (c || d))) (Some true) → ◌≡◌ {A = _} (Some ((b && not (c || false)) && not d)) (Some true)
    go true false false k = refl
    go true false true k = absurd cc
    go true true d k = absurd cc
    go false c d k = absurd cc
without_both x gone (n ∷ ns) (b ∷ f) (suc i) e = without_both x gone ns f i e

-- and the others stay held
pub holds_still : (x y : Name) (names : List Name) (f : List Bool) → same_name y x ≡ false → holds names f y ≡ true → holds names (without_names (x ∷ []) names f) y ≡ true
holds_still x y [] f d h = absurd (false≢true h)
holds_still x y (n ∷ ns) [] d h = absurd (false≢true h)
holds_still x y (n ∷ ns) (b ∷ f) d h = go b (same_name n y) refl (same_name n x) refl (holds_still x y ns f d) h
  where
    go : (b c : Bool) → same_name n y ≡ c → (e : Bool) → same_name n x ≡ e → (holds ns f y ≡ true → holds ns (without_names (x ∷ []) ns f) y ≡ true) → ((b && c) || holds ns f y) ≡ true → (((b && not (e || false)) && c) || holds ns (without_names (x ∷ []) ns f) y) ≡ true
    go true true p true q ih k = absurd (both_ways (same_name y x) d (is_same y x (sym (same_is n y p) ∙ same_is n x q)))
    go true true p false q ih k = refl
    go true false p e q ih k = or_right ((true && not (e || false)) && false) _ (ih k)
    go false c p e q ih k = or_right ((false && not (e || false)) && c) _ (ih k)

-- what one name takes with it
one_out : (p : ℕ) (names : List Name) (x : Name) (f : List Bool) (vs : List Value) → any_twice names ≡ false → holds names f x ≡ true
    → amount p (without_names (x ∷ []) names f) vs + one_if (has p (permissions_of_word (look names vs x))) ≤ amount p f vs
one_out p [] x f vs t h = absurd (false≢true h)
one_out p (n ∷ ns) x [] vs t h = absurd (false≢true h)
one_out p (n ∷ ns) x (b ∷ f) [] t h = omega arith
one_out p (n ∷ ns) x (b ∷ f) (v ∷ vs) t h = go b (same_name n x) refl (one_out p ns x f vs (or_parts (has_name ns n) (any_twice ns) t).1) h
  where
    place : ℕ
    place = place_of ns x

    go : (b c : Bool) → same_name n x ≡ c
        → (holds ns f x ≡ true → amount p (without_names (x ∷ []) ns f) vs + one_if (has p (permissions_of_word (look ns vs x))) ≤ amount p f vs)
        → ((b && c) || holds ns f x) ≡ true
        → amount p ((b && not (c || false)) ∷ without_names (x ∷ []) ns f) (v ∷ vs) + one_if (has p (permissions_of_word (slice_index_or (v ∷ vs) (if c then 0 else place + 1) nothing))) ≤ amount p (b ∷ f) (v ∷ vs)
    go true true e ih k = let r = within_less p (without_names (x ∷ []) ns f) f vs (without_within (x ∷ []) ns f) in omega (arith, r)
    go false true e ih k = absurd (both_ways (has_name ns n) (or_parts (has_name ns n) (any_twice ns) t).0 (has_same ns x n (same_back n x e) (holds_has ns f x k)))
    go true false e ih k = rw (add-one place) (let r = ih k in omega (arith, r))
    go false false e ih k = rw (add-one place) (let r = ih k in omega (arith, r))

-- the permissions of the values under these names
abbrev pub under : List Name → List Value → List Name → List (List ℕ)
under names vs xs = map (λ x. permissions_of_word (look names vs x)) xs

still_all : (x : Name) (xs names : List Name) (f : List Bool) → has_name xs x ≡ false → list_all (holds names f) xs ≡ true → list_all (holds names (without_names (x ∷ []) names f)) xs ≡ true
still_all x [] names f n h = refl
still_all x (y ∷ xs) names f n h =
    let a = or_parts (same_name x y) (has_name xs x) n in
    let b = and_parts (holds names f y) (list_all (holds names f) xs) h in
    and_from _ _ (holds_still x y names f (false_from_ne_true (same_name y x) (λ e. both_ways (same_name x y) a.0 (same_back y x e))) b.0) (still_all x xs names f a.1 b.1)

-- what names that are held, none twice, take with them
pub all_out : (p : ℕ) (names : List Name) (vs : List Value) → any_twice names ≡ false → (xs : List Name) (f : List Bool) → any_twice xs ≡ false → list_all (holds names f) xs ≡ true
    → amount p (without_names xs names f) vs + carriers p (under names vs xs) ≤ amount p f vs
all_out p names vs t [] f u h = let r = within_less p (without_names [] names f) f vs (without_within [] names f) in omega (arith, r)
all_out p names vs t (x ∷ xs) f u h =
    let a = and_parts (holds names f x) (list_all (holds names f) xs) h in
    let b = or_parts (has_name xs x) (any_twice xs) u in
    let rest = all_out p names vs t xs (without_names (x ∷ []) names f) b.1 (still_all x xs names f b.0 a.1) in
    let one = one_out p names x f vs t a.0 in
    let less = within_less p (without_names (x ∷ xs) names f) _ vs (without_both x xs names f) in
    omega (arith, rest, one, less)
