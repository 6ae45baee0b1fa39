-- What stands at the place of a name is what is found by it.
use Rattle.std.proofs.Common.{◌≡◌, ◌+◌, Bool, true, false, cond, List, [], ◌∷◌, map, find, refl, ap, ◌∙◌, Some, slice_get, add-one}
use Rattle.std.specs.Str.{bytes_eq}
use Rattle.civl_tree.specs.declared.name.Name.{Name}
use Rattle.civl_tree.specs.rules.Names.{same_name}
use Rattle.civl_tree.proofs.Naming.{swapped}
use Rattle.civl_firing.specs.Truth.{place_of}

module _ {A : Type 0} (name_of : A → Name) where
  pub found_at : (items : List A) (name : Name) → slice_get items (place_of (map name_of items) name) ≡ find (λ item. same_name name (name_of item)) items
  found_at [] name = refl
  found_at (x ∷ rest) name =
      either (bytes_eq (name_of x).bytes name.bytes) (found_at rest name) ∙ ap (λ (same : Bool). cond same (Some x) (find (λ item. same_name name (name_of item)) rest)) (swapped (name_of x).bytes name.bytes)
    where
      either : (same : Bool) → slice_get rest (place_of (map name_of rest) name) ≡ find (λ item. same_name name (name_of item)) rest →
          slice_get (x ∷ rest) (cond same 0 (place_of (map name_of rest) name + 1)) ≡ cond same (Some x) (find (λ item. same_name name (name_of item)) rest)
      either true behind = refl
      either false behind = ap (λ k. slice_get (x ∷ rest) k) (add-one (place_of (map name_of rest) name)) ∙ behind
