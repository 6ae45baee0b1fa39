-- Names as keys of bytes.
use Rattle.std.proofs.Common.{◌≡◌, ℕ, ◌∙◌, Bool, true, false, List, [], ◌∷◌, ◌++◌, map, sym, ap, refl, Bor}
use Rattle.std.proofs.lemmas.List.{map-append}
use Rattle.std.specs.Prelude.{if◌then◌else◌}
use Rattle.std.specs.List.{list_any}
use Rattle.std.specs.Str.{bytes_eq}
use Rattle.civl_tree.specs.declared.name.Name.{Name}
use Rattle.civl_tree.specs.rules.Names.{has_name, same_name}
use Rattle.civl_names.specs.inner.NameSets.{with_name}
use Rattle.civl_names.proofs.Lists.{any_map}

abbrev pub name_of : Bor (List ℕ) → Name
name_of key = record { bytes = key.now }

-- a key is looked for as a name is
pub any_key : (name : Name) (bytes : List ℕ) (keys : List (Bor (List ℕ))) → bytes ≡ name.bytes → list_any (λ key. bytes_eq bytes key.now) keys ≡ has_name (map name_of keys) name
any_key name bytes keys e =
    ap (λ (other : List ℕ). list_any (λ key. bytes_eq other key.now) keys) e ∙ sym (any_map (same_name name) name_of keys)

-- a key is added as a name is
pub with_key : (name : Name) (key : Bor (List ℕ)) (keys : List (Bor (List ℕ))) → key.now ≡ name.bytes
    → map name_of (if list_any (λ other. bytes_eq key.now other.now) keys then keys else keys ++ key ∷ []) ≡ with_name (map name_of keys) name
with_key name key keys e =
    let added : map name_of (keys ++ key ∷ []) ≡ map name_of keys ++ name ∷ [] =
    map-append name_of keys (key ∷ []) ∙ ap (λ (other : List ℕ). map name_of keys ++ record { bytes = other } ∷ []) e in
    let either : (b : Bool) → map name_of (if b then keys else keys ++ key ∷ []) ≡ (if b then map name_of keys else map name_of keys ++ name ∷ []) =
    λ b. elim b as (λ d. map name_of (if d then keys else keys ++ key ∷ []) ≡ (if d then map name_of keys else map name_of keys ++ name ∷ [])) [ true ↦ refl | false ↦ added ] in
    either (list_any (λ other. bytes_eq key.now other.now) keys) ∙ ap (λ (b : Bool). if b then map name_of keys else map name_of keys ++ name ∷ []) (any_key name key.now keys e)
