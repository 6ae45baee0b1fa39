-- The names of a declaration, kind by kind.
use Rattle.std.proofs.Common.{◌≡◌, Bool, true, false, List, [], ◌∷◌, ◌++◌, refl, ◌∙◌}
use Rattle.std.specs.Prelude.{◌||◌}
use Rattle.std.proofs.lemmas.List.{append_assoc}
use Rattle.std.proofs.lemmas.List.Folds.{list_any-append}
use Rattle.std.proofs.lemmas.Bool.{or_right, or_left}
use Rattle.civl_tree.specs.declared.name.Name.{Name}
use Rattle.civl_tree.specs.rules.Names.{has_name, any_twice}

-- what stands twice among some names stands twice among more
pub twice_append : (xs ys : List Name) → any_twice xs ≡ true → any_twice (xs ++ ys) ≡ true
twice_append [] ys h = cc
twice_append (x ∷ xs) ys h =
    let by_case : (b : Bool) → has_name xs x ≡ b → (b || any_twice xs) ≡ true → (has_name (xs ++ ys) x || any_twice (xs ++ ys)) ≡ true =
    λ b. elim b as (λ d. has_name xs x ≡ d → (d || any_twice xs) ≡ true → (has_name (xs ++ ys) x || any_twice (xs ++ ys)) ≡ true) [
      | true ↦ λ e k. or_left _ _ (list_any-append _ xs ys ∙ or_left _ _ e)
      | false ↦ λ e k. or_right _ _ (twice_append xs ys k)
    ] in
    by_case (has_name xs x) refl h

pub assoc : (xs ys zs : List Name) → (xs ++ ys) ++ zs ≡ xs ++ (ys ++ zs)
assoc xs ys zs = append_assoc xs ys zs

pub ruleset declaring = (twice_append, assoc)
