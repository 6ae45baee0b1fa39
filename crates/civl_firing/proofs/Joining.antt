-- Places and values in joined lists.
use Rattle.std.proofs.Common.{◌≡◌, ℕ, ◌+◌, ◌-◌, ◌<◌, ◌≤◌, List, [], ◌∷◌, ◌++◌, length, get_or, true, false, arith, refl, ap, sym, ◌∙◌, take, drop}
use Rattle.std.proofs.lemmas.List.{append-nil, append_assoc, get_or_append_left, get_or-append_right, get_or-map, map-append, take-append-drop}
use Rattle.std.specs.Prelude.{if◌then◌else◌}
use Rattle.std.specs.Str.{bytes_eq}
use Rattle.civl_tree.specs.declared.name.Name.{Name}
use Rattle.civl_bits.specs.declared.value.Value.{Value}
use Rattle.civl_tree.specs.declared.expr.Expr.{Expr}
use Rattle.civl_firing.specs.declared.scope.Scope.{Scope}
use Rattle.civl_firing.specs.Eval.{value_of, values_of}
use Rattle.civl_firing.specs.Truth.{place_of}

pub place_first : (xs ys : List Name) (n : Name) → place_of xs n < length xs → place_of (xs ++ ys) n ≡ place_of xs n
place_first [] ys n h = absurd (omega arith)
place_first (x ∷ xs) ys n h = elim (bytes_eq x.bytes n.bytes) as (λ b. (if b then 0 else place_of xs n + 1) < length (x ∷ xs) → (if b then 0 else place_of (xs ++ ys) n + 1) ≡ (if b then 0 else place_of xs n + 1)) [ true ↦ λ _. refl | false ↦ λ g. ap (λ (k : ℕ). k + 1) (place_first xs ys n (omega arith)) ] h

pub place_second : (xs ys : List Name) (n : Name) → length xs ≤ place_of xs n → place_of (xs ++ ys) n ≡ length xs + place_of ys n
place_second [] ys n h = omega arith
place_second (x ∷ xs) ys n h = elim (bytes_eq x.bytes n.bytes) as (λ b. length (x ∷ xs) ≤ (if b then 0 else place_of xs n + 1) → (if b then 0 else place_of (xs ++ ys) n + 1) ≡ length (x ∷ xs) + place_of ys n) [ true ↦ λ g. absurd (omega arith) | false ↦ λ g. let r = place_second xs ys n (omega arith) in omega (arith, r) ] h

pub ruleset joining = (place_first, place_second)

pub index_first : {X : Type 0} (xs ys : List X) (i : ℕ) (d : X) → i < length xs → get_or (xs ++ ys) i d ≡ get_or xs i d
index_first xs ys i d h = get_or_append_left xs ys d i h

pub index_second : {X : Type 0} (xs ys : List X) (i : ℕ) (d : X) → length xs ≤ i → get_or (xs ++ ys) i d ≡ get_or ys (i - length xs) d
index_second xs ys i d h = get_or-append_right xs ys (length xs) i d refl h

pub ruleset indexing = (index_first, index_second)

pub ruleset appending = (append-nil, append_assoc)

-- a value among those of some expressions
pub evaluated_at : (scope : Scope) (exprs : List Expr) (i : ℕ) (d : Value) (e : Expr) → i < length exprs → e ≡ get_or exprs i e → get_or (values_of scope exprs) i d ≡ value_of scope e
evaluated_at scope exprs i d e h is = get_or-map (value_of scope) exprs i e d h ∙ ap (value_of scope) (sym is)

-- the values of the first expressions, and of the others behind them
pub evaluated : (scope : Scope) (exprs : List Expr) (n : ℕ) → values_of scope (take n exprs) ++ values_of scope (drop n exprs) ≡ values_of scope exprs
evaluated scope exprs n = sym (map-append (value_of scope) (take n exprs) (drop n exprs)) ∙ ap (values_of scope) (take-append-drop n exprs)
