-- Names that stand twice.
use Rattle.std.proofs.Common.{◌≡◌, ℕ, ◌+◌, ◌<◌, Bool, true, false, List, [], ◌∷◌, ◌++◌, map, take, drop, length, get_or, refl, sym, ap, ◌∙◌}
use Rattle.std.specs.Prelude.{◌||◌, if◌then◌else◌}
use Rattle.std.proofs.lemmas.List.{append_assoc, take_more, drop_more, take-append-drop, map-append}
use Rattle.std.proofs.lemmas.List.Folds.{list_any-append}
use Rattle.std.proofs.lemmas.Bool.{or_parts, or_from, or_right, or_left}
use Rattle.civl_tree.specs.declared.name.Name.{Name}
use Rattle.civl_tree.specs.rules.Names.{has_name, same_name, any_twice}
use Rattle.civl_tree.proofs.Naming.{same_name_sym}
use Rattle.civl_names.specs.inner.NameSets.{with_name}

-- ---- names

has_behind : (xs ys : List Name) (m n : Name) → same_name n m ≡ true → has_name (xs ++ m ∷ ys) n ≡ true
has_behind [] ys m n h = or_left (same_name n m) (has_name ys n) h
has_behind (x ∷ xs) ys m n h = or_right (same_name n x) (has_name (xs ++ m ∷ ys) n) (has_behind xs ys m n h)

-- ---- a name behind others

-- one that is there already stands twice
pub twice_here : (xs ys : List Name) (n : Name) → has_name xs n ≡ true → any_twice (xs ++ n ∷ ys) ≡ true
twice_here [] ys n h = cc
twice_here (x ∷ xs) ys n h =
    let by_case : (b : Bool) → same_name n x ≡ b → (b || has_name xs n) ≡ true → (has_name (xs ++ n ∷ ys) x || any_twice (xs ++ n ∷ ys)) ≡ true =
    λ b. elim b as (λ d. same_name n x ≡ d → (d || has_name xs n) ≡ true → (has_name (xs ++ n ∷ ys) x || any_twice (xs ++ n ∷ ys)) ≡ true) [
      | true ↦ λ e k. or_left _ _ (has_behind xs ys n x (same_name_sym x n ∙ e))
      | false ↦ λ e k. or_right _ _ (twice_here xs ys n k)
    ] in
    by_case (same_name n x) refl h

-- one that isn't makes none stand twice
pub twice_more : (xs : List Name) (n : Name) → any_twice xs ≡ false → has_name xs n ≡ false → any_twice (xs ++ n ∷ []) ≡ false
twice_more [] n h k = refl
twice_more (x ∷ xs) n h k =
    let before = or_parts (has_name xs x) (any_twice xs) h in
    let other = or_parts (same_name n x) (has_name xs n) k in
    or_from _ _
    (list_any-append (same_name x) xs (n ∷ []) ∙ or_from _ _ before.0 (or_from _ _ (same_name_sym x n ∙ other.0) refl))
    (twice_more xs n before.1 other.1)

pub with_new : (names : List Name) (n : Name) → has_name names n ≡ false → with_name names n ≡ names ++ n ∷ []
with_new names n h = ap (λ (b : Bool). if b then names else names ++ n ∷ []) h

-- ---- a loop that adds names

pub names_more : {T : Type 0} (f : T → Name) (names : List Name) (items : List T) (i : ℕ) (item : T) → i < length items → item ≡ get_or items i item
    → (names ++ map f (take i items)) ++ f item ∷ [] ≡ names ++ map f (take (i + 1) items)
names_more {T = T} f names items i item l e =
    append_assoc names (map f (take i items)) (f item ∷ [])
    ∙ ap (λ (ns : List Name). names ++ ns) (sym (ap (map f) (take_more items i item l) ∙ map-append f (take i items) (get_or items i item ∷ []) ∙ ap (λ (x : T). map f (take i items) ++ f x ∷ []) (sym e)))

-- the same up to the first that is there already
pub twice_at : {T : Type 0} (f : T → Name) (names : List Name) (items : List T) (i : ℕ) (item : T) → i < length items → item ≡ get_or items i item
    → has_name (names ++ map f (take i items)) (f item) ≡ true → any_twice (names ++ map f items) ≡ true
twice_at {T = T} f names items i item l e h =
    let split : names ++ map f items ≡ (names ++ map f (take i items)) ++ f item ∷ map f (drop (i + 1) items) =
    ap (λ (xs : List T). names ++ map f xs) (sym (take-append-drop i items) ∙ ap (λ (xs : List T). take i items ++ xs) (drop_more items i item l))
    ∙ ap (λ (ns : List Name). names ++ ns) (map-append f (take i items) (get_or items i item ∷ drop (i + 1) items))
    ∙ ap (λ (x : T). names ++ (map f (take i items) ++ f x ∷ map f (drop (i + 1) items))) (sym e)
    ∙ sym (append_assoc names (map f (take i items)) (f item ∷ map f (drop (i + 1) items))) in
    ap any_twice split ∙ twice_here (names ++ map f (take i items)) (map f (drop (i + 1) items)) (f item) h
