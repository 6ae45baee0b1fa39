-- Names that are the same, and the names of two lists, one behind the other.
use Rattle.std.proofs.Common.{◌≡◌, ◌∙◌, ℕ, true, Bool, false, List, ◌∷◌, ◌++◌, refl, sym, ap, []}
use Rattle.std.proofs.lemmas.Slice.Eq.{bytes_eq-Decides}
use Rattle.std.specs.Prelude.{◌||◌}
use Rattle.std.proofs.lemmas.Bool.{false≢true, or_right, or_parts}
use Rattle.std.proofs.lemmas.List.Folds.{list_any-append}
use Rattle.std.specs.Str.{bytes_eq}
use Rattle.civl_tree.specs.declared.name.Name.{Name}
use Rattle.civl_tree.specs.rules.Names.{same_name, has_name, any_twice}
use Rattle.civl_tree.proofs.Bools.{same_truth}

pub same_bytes : (a b : Name) → same_name a b ≡ true → a.bytes ≡ b.bytes
same_bytes a b e = (bytes_eq-Decides a.bytes b.bytes).0 e

pub bytes_same : (x y : Name) → x.bytes ≡ y.bytes → same_name x y ≡ true
bytes_same x y e = (bytes_eq-Decides x.bytes y.bytes).1 e

abbrev named : List ℕ → Name
named bytes = record { bytes = bytes }

pub same_is : (a b : Name) → same_name a b ≡ true → a ≡ b
same_is a b e = ap named (same_bytes a b e)

pub is_same : (a b : Name) → a ≡ b → same_name a b ≡ true
is_same a b e = bytes_same a b (ap (λ (n : Name). n.bytes) e)

-- equality of bytes, the other way round
pub swapped : (a b : List ℕ) → bytes_eq a b ≡ bytes_eq b a
swapped a b =
    let there = bytes_eq-Decides a b in
    let back = bytes_eq-Decides b a in
    same_truth (bytes_eq a b) (bytes_eq b a) (λ e. back.1 (sym (there.0 e))) (λ e. there.1 (sym (back.0 e)))

pub same_name_sym : (m n : Name) → same_name m n ≡ same_name n m
same_name_sym m n = swapped m.bytes n.bytes

-- ---- the names of two lists

pub has_first : (xs ys : List Name) (x : Name) → has_name xs x ≡ true → has_name (xs ++ ys) x ≡ true
has_first [] ys x e = absurd (false≢true e)
has_first (n ∷ xs) ys x e = by (same_name x n) e (has_first xs ys x)
  where
    by : (b : Bool) → (b || has_name xs x) ≡ true → (has_name xs x ≡ true → has_name (xs ++ ys) x ≡ true) → (b || has_name (xs ++ ys) x) ≡ true
    by true q f = refl
    by false q f = f q

pub has_second : (xs ys : List Name) (x : Name) → has_name ys x ≡ true → has_name (xs ++ ys) x ≡ true
has_second [] ys x e = e
has_second (n ∷ xs) ys x e = or_right (same_name x n) (has_name (xs ++ ys) x) (has_second xs ys x e)

-- ---- lists in which no name stands twice

pub twice_behind : (xs ys : List Name) → any_twice (xs ++ ys) ≡ false → any_twice ys ≡ false
twice_behind [] ys t = t
twice_behind (x ∷ xs) ys t = twice_behind xs ys (or_parts (has_name (xs ++ ys) x) (any_twice (xs ++ ys)) t).1

-- of two lists in which no name stands twice
pub apart : (xs ys : List Name) (name : Name) → any_twice (xs ++ ys) ≡ false → has_name xs name ≡ true → has_name ys name ≡ false
apart [] ys name t h = absurd (false≢true h)
apart (x ∷ xs) ys name t h = by_first (same_name name x) refl (λ k. apart xs ys name (or_parts (has_name (xs ++ ys) x) (any_twice (xs ++ ys)) t).1 k) h
  where
    first : (has_name xs x || has_name ys x) ≡ false
    first = sym (list_any-append (same_name x) xs ys) ∙ (or_parts (has_name (xs ++ ys) x) (any_twice (xs ++ ys)) t).0

    by_first : (b : Bool) → same_name name x ≡ b → (has_name xs name ≡ true → has_name ys name ≡ false) → (b || has_name xs name) ≡ true → has_name ys name ≡ false
    by_first true e later k = ap (has_name ys) (same_is name x e) ∙ (or_parts (has_name xs x) (has_name ys x) first).1
    by_first false e later k = later k
