-- The first of several that is there.
use Rattle.std.proofs.Common.{◌≡◌, ◌⊎◌, inl, inr, Bool, true, false, List, [], ◌∷◌, Contains, Option, None, Some, refl, subst}
use Rattle.std.specs.Prelude.{option_and_then, if◌then◌else◌, is_none}
use Rattle.std.specs.List.{find}
use Rattle.std.specs.Option.{option_or, option_map}
use Rattle.std.proofs.lemmas.Option.{same_Some, none-some}
use Rattle.civl_tree.proofs.Pairs.{contains_here, contains_there}
use Rattle.civl_subjects.specs.Parts.{first_told}

pub or_some : {A : Type 0} (a b : Option A) (x : A) → option_or a b ≡ Some x → (a ≡ Some x) ⊎ (b ≡ Some x)
or_some None b x h = inr h
or_some (Some y) b x h = inl h

pub map_some : {A B : Type 0} (f : A → B) (a : Option A) (y : B) → option_map f a ≡ Some y → (x : A) × (a ≡ Some x) × (f x ≡ y)
map_some f None y h = absurd (none-some y h)
map_some f (Some x) y h = (x, refl, same_Some (f x) y h)

pub and_some : {A B : Type 0} (f : A → Option B) (a : Option A) (y : B) → option_and_then f a ≡ Some y
    → (x : A) × (a ≡ Some x) × (f x ≡ Some y)
and_some f None y h = absurd (none-some y h)
and_some f (Some x) y h = (x, refl, h)

pub is_absent : {A : Type 0} (a : Option A) → is_none a ≡ true → a ≡ None
is_absent None h = refl
is_absent (Some x) h = absurd (let no = h in cc)

pub told_some : {A B : Type 0} (f : A → Option B) (xs : List A) (y : B) → first_told f xs ≡ Some y
    → (x : A) × Contains xs x × (f x ≡ Some y)
told_some f [] y h = absurd (none-some y h)
told_some f (x ∷ xs) y h =
    elim (or_some (f x) (first_told f xs) y h) [
      | inl e ↦ (x, contains_here x xs, e)
      | inr e ↦ let found = told_some f xs y e in (found.0, contains_there x xs found.0 found.1, found.2)
    ]

-- where a test chooses between what is there and something else
pub if_some : {A : Type 0} (b : Bool) (x y : A) (other : Option A) → (if b then Some x else other) ≡ Some y
    → ((b ≡ true) × (x ≡ y)) ⊎ (other ≡ Some y)
if_some true x y other h = inl (refl, same_Some x y h)
if_some false x y other h = inr h

pub if_only : {A : Type 0} (b : Bool) (x y : A) → (if b then Some x else None) ≡ Some y → (b ≡ true) × (x ≡ y)
if_only true x y h = (refl, same_Some x y h)
if_only false x y h = absurd (none-some y h)

pub found_some : {A : Type 0} (p : A → Bool) (xs : List A) (y : A) → find p xs ≡ Some y → Contains xs y × (p y ≡ true)
found_some p [] y h = absurd (none-some y h)
found_some p (x ∷ xs) y h =
    elim (if_some (p x) x y (find p xs) h) [
      | inl here ↦ let e : x ≡ y = here.1 in (subst (Contains (x ∷ xs)) e (contains_here x xs), subst (λ z. p z ≡ true) e here.0)
      | inr there ↦ let found = found_some p xs y there in (contains_there x xs y found.0, found.1)
    ]
