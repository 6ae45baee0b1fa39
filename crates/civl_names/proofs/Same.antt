-- What is the same of each part is the same of the whole.
use Rattle.std.proofs.Common.{◌≡◌, ℕ, ◌+◌, Bool, true, false, List, [], ◌∷◌, ◌++◌, map, None, Some, refl, ap₂}
use Rattle.std.specs.Prelude.{cond, not, ◌||◌, if◌then◌else◌, is_none}
use Rattle.std.specs.List.{list_any, find}
use Rattle.civl_tree.specs.declared.stmt.Stmt.{Stmt}
use Rattle.civl_tree.specs.rules.Codes.{E11}
use Rattle.civl_tree.specs.rules.Rules.{Place, numbers_where, item_place, each_place, refusal_at, first_of}

pub any_same : {A : Type 0} (p q : A → Bool) → ((x : A) → p x ≡ q x) → (xs : List A) → list_any p xs ≡ list_any q xs
any_same p q h [] = refl
any_same p q h (x ∷ xs) = ap₂ (λ (a b : Bool). a || b) (h x) (any_same p q h xs)

pub numbers_same : (p q : Stmt → Bool) → ((stmt : Stmt) → p stmt ≡ q stmt) → (number : ℕ) (stmts : List Stmt) → numbers_where p number stmts ≡ numbers_where q number stmts
unfolding numbers_where
numbers_same p q h number [] = refl
numbers_same p q h number (stmt ∷ stmts) = ap₂ (λ (b : Bool) (ns : List ℕ). (if b then number ∷ [] else []) ++ ns) (h stmt) (numbers_same p q h (number + 1) stmts)

pub each_same : {A : Type 0} (f g : ℕ → A → List Place) → ((place : ℕ) (item : A) → f place item ≡ g place item) → (place : ℕ) (items : List A) → each_place f place items ≡ each_place g place items
unfolding each_place
each_same f g h place [] = refl
each_same f g h place (item ∷ items) = ap₂ (λ (here behind : List Place). here ++ behind) (h place item) (each_same f g h (place + 1) items)

-- none is found where none passes
pub none_found : {A : Type 0} (p : A → Bool) (xs : List A) → is_none (find p xs) ≡ not (list_any p xs)
none_found p [] = refl
none_found p (x ∷ xs) = here (p x) (none_found p xs)
  where
    here : (b : Bool) → is_none (find p xs) ≡ not (list_any p xs) → is_none (cond b (Some x) (find p xs)) ≡ not (b || list_any p xs)
    here true h = refl
    here false h = h

-- an item that is broken, and one that isn't
pub item_found : (b : Bool) (item : ℕ) → b ≡ true → Some (refusal_at E11 (record { item = item; statement = 0 })) ≡ first_of (map (refusal_at E11) (item_place item b))
item_found true item h = refl
item_found false item h = cc

pub item_kept : (b : Bool) (item : ℕ) → b ≡ false → None ≡ first_of (map (refusal_at E11) (item_place item b))
item_kept true item h = cc
item_kept false item h = refl
