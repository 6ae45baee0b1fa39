-- Names at places of declarations.
use Rattle.std.proofs.Common.{◌≡◌, ◌∙◌, ℕ, ◌<◌, ◌≤◌, List, length, get_or, map, sym, ap, arith}
use Rattle.std.proofs.lemmas.List.{get_or-map, get_or_past, length-map}
use Rattle.civl_tree.specs.declared.name.Name.{Name}

pub named : {X : Type 0} (f : X → Name) (xs : List X) (i : ℕ) (x : X) (d : Name) → i < length xs → x ≡ get_or xs i x → get_or (map f xs) i d ≡ f x
named f xs i x d below here = get_or-map f xs i x d below ∙ ap f (sym here)

pub unnamed : {X : Type 0} (f : X → Name) (xs : List X) (i : ℕ) (d : Name) → length xs ≤ i → get_or (map f xs) i d ≡ d
unnamed f xs i d past = get_or_past (map f xs) i d (omega (arith, length-map xs f))

pub ruleset naming = (named, unnamed)
