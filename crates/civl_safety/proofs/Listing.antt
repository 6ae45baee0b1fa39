-- Elements of lists of lists, and what is said of each item where nothing is.
use Rattle.std.proofs.Common.{◌≡◌, ℕ, zero, suc, ◌+◌, Bool, true, false, List, [], ◌∷◌, Some, refl, sym, ap, ◌∙◌, subst, arith}
use Rattle.std.specs.Prelude.{slice_get, slice_set, All, if◌then◌else◌}
use Rattle.std.specs.List.{list_any}
use Rattle.std.proofs.lemmas.Bool.{or_parts}
use Rattle.std.proofs.lemmas.Option.{same_Some, none-some}
use Rattle.std.proofs.lemmas.List.Elements.{All-nil, All-cons}
use Rattle.civl_tree.specs.declared.stmt.Stmt.{Stmt}
use Rattle.civl_tree.specs.rules.Rules.{Place, statement_places, numbers_where, each_place}
use Rattle.civl_tree.proofs.Lists.{none_left, none_right}
use Rattle.civl_conditions.specs.Steps.{each_at}

-- ---- lists

pub none_shown : {A : Type 0} (b : Bool) (x : A) (xs : List A) → (if b then x ∷ xs else []) ≡ [] → b ≡ false
none_shown true x xs e = absurd cc
none_shown false x xs e = refl

-- where nothing is said of all items, nothing is said of one
pub each_none : {A B : Type 0} (f : ℕ → A → List B) (at : ℕ) (xs : List A) (i n : ℕ) (x : A) → slice_get xs i ≡ Some x → n ≡ at + i → each_at f at xs ≡ [] → f n x ≡ []
each_none f at [] i n x e s h = absurd (none-some x e)
each_none f at (z ∷ zs) zero n x e s h =
    let here : at ≡ n = omega (arith, s) in
    subst (λ a. f n a ≡ []) (same_Some z x e) (subst (λ k. f k z ≡ []) here (none_left (f at z) (each_at f (at + 1) zs) h))
each_none f at (z ∷ zs) (suc i) n x e s h = each_none f (at + 1) zs i n x e (omega (arith, s)) (none_right (f at z) (each_at f (at + 1) zs) h)

pub places_none : {A : Type 0} (f : ℕ → A → List Place) (at : ℕ) (xs : List A) (i n : ℕ) (x : A) → slice_get xs i ≡ Some x → n ≡ at + i → each_place f at xs ≡ [] → f n x ≡ []
unfolding each_place
places_none f at [] i n x e s h = absurd (none-some x e)
places_none f at (z ∷ zs) zero n x e s h =
    let here : at ≡ n = omega (arith, s) in
    subst (λ a. f n a ≡ []) (same_Some z x e) (subst (λ k. f k z ≡ []) here (none_left (f at z) (each_place f (at + 1) zs) h))
places_none f at (z ∷ zs) (suc i) n x e s h = places_none f (at + 1) zs i n x e (omega (arith, s)) (none_right (f at z) (each_place f (at + 1) zs) h)

pub numbers_none : (breaks : Stmt → Bool) (at : ℕ) (ss : List Stmt) (i : ℕ) (s : Stmt) → slice_get ss i ≡ Some s → numbers_where breaks at ss ≡ [] → breaks s ≡ false
unfolding numbers_where
numbers_none breaks at [] i s e h = absurd (none-some s e)
numbers_none breaks at (z ∷ zs) zero s e h = ap breaks (sym (same_Some z s e)) ∙ none_shown (breaks z) at [] (none_left (if breaks z then at ∷ [] else []) (numbers_where breaks (at + 1) zs) h)
numbers_none breaks at (z ∷ zs) (suc i) s e h = numbers_none breaks (at + 1) zs i s e (none_right (if breaks z then at ∷ [] else []) (numbers_where breaks (at + 1) zs) h)

pub statements_none : (item : ℕ) (numbers : List ℕ) → statement_places item numbers ≡ [] → numbers ≡ []
statements_none item [] e = refl
statements_none item (n ∷ ns) e = absurd cc

-- ---- the first that passes a test, and one that does

pub none_at : {A : Type 0} (test : A → Bool) (xs : List A) (i : ℕ) (x : A) → slice_get xs i ≡ Some x → list_any test xs ≡ false → test x ≡ false
none_at test [] i x e h = absurd (none-some x e)
none_at test (y ∷ ys) zero x e h = ap test (sym (same_Some y x e)) ∙ (or_parts (test y) (list_any test ys) h).0
none_at test (y ∷ ys) (suc i) x e h = none_at test ys i x e (or_parts (test y) (list_any test ys) h).1

-- ---- all elements of a list in which one is replaced

pub set_all : {A : Type 0} (P : A → Type 0) (xs : List A) (t : ℕ) (new : A) → P new → ((u : ℕ) (x : A) → (u ≡ t → ⊥) → slice_get xs u ≡ Some x → P x) → All P (slice_set xs t new)
set_all P [] t new h others = All-nil P
set_all {A = A} P (x ∷ xs) zero new h others = All-cons P new xs h (rest xs (λ u y e. others (suc u) y (λ q. absurd (omega (arith, q))) e))
  where
    rest : (ys : List A) → ((u : ℕ) (y : A) → slice_get ys u ≡ Some y → P y) → All P ys
    rest [] f = All-nil P
    rest (y ∷ ys) f = All-cons P y ys (f zero y refl) (rest ys (λ u z e. f (suc u) z e))
set_all P (x ∷ xs) (suc t) new h others = All-cons P x (slice_set xs t new) (others zero x (λ q. absurd (omega (arith, q))) refl) (set_all P xs t new h (λ u y n e. others (suc u) y (λ q. n (omega (arith, q))) e))
