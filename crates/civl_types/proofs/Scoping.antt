-- Scopes by their parts.
use Rattle.std.proofs.Common.{◌≡◌, Bool, true, false, List, [], ◌∷◌, ◌++◌, Option, None, Some, refl}
use Rattle.std.specs.Prelude.{if◌then◌else◌}
use Rattle.civl_tree.specs.declared.name.Name.{Name}
use Rattle.civl_tree.specs.declared.expr.Sort.{Sort}
use Rattle.civl_tree.specs.rules.Names.{same_name}
use Rattle.civl_tree.specs.rules.Scopes.{Binding, sort_in}

-- the first of two sorts
abbrev pub or_sort : Option Sort → Option Sort → Option Sort
or_sort None second = second
or_sort (Some sort) second = Some sort

-- a name is looked for in the first part, then in the second
pub sort_in_append : (xs ys : List Binding) (name : Name) → sort_in (xs ++ ys) name ≡ or_sort (sort_in xs name) (sort_in ys name)
sort_in_append [] ys name = refl
sort_in_append (x ∷ xs) ys name =
    let here : (b : Bool) → (if b then Some x.sort else sort_in (xs ++ ys) name) ≡ or_sort (if b then Some x.sort else sort_in xs name) (sort_in ys name) =
    λ b. elim b as (λ c. (if c then Some x.sort else sort_in (xs ++ ys) name) ≡ or_sort (if c then Some x.sort else sort_in xs name) (sort_in ys name)) [ true ↦ refl | false ↦ sort_in_append xs ys name ] in
    here (same_name x.name name)
