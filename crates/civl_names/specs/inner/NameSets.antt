-- Serves private functions: sets of names.
use Rattle.std.specs.Prelude.{ℕ, ◌≡◌, ◌||◌, Bool, true, false, Option, None, Some, List, [], ◌∷◌, ◌++◌, map, if◌then◌else◌}
use Rattle.std.specs.List.{list_any}
use Rattle.civl_tree.specs.declared.name.Name.{Name}
use Rattle.civl_tree.specs.declared.refusal.Refusal.{Refusal}
use Rattle.civl_tree.specs.rules.Names.{has_name, any_twice}
use Rattle.civl_tree.specs.rules.Codes.{E10}
use Rattle.civl_tree.specs.rules.Rules.{Place, each_place, refusal_at, first_of}
use Rattle.civl_names.specs.declared.name_set.NameSet.{NameSet}

-- the names in a set, each once, in the order in which they were added
abbrev pub names_in : NameSet → List Name
names_in set = map (λ key. record { bytes = key.now }) set.keys.keys

-- a name behind these, unless it is one of them
abbrev pub with_name : List Name → Name → List Name
with_name names name = if has_name names name then names else names ++ name ∷ []

-- these names behind them, each once
abbrev pub with_names : List Name → List Name → List Name
with_names names [] = names
with_names names (name ∷ added) = with_names (with_name names name) added

-- these, each once
abbrev pub set_of : List Name → List Name
set_of names = with_names [] names

-- what comes of adding names to a set up to one that is there: whether some name then stands twice, and if none does, the set has them all
abbrev pub IsAdded : Bool → List Name → List Name → List Name → Type 0
IsAdded true names added new = any_twice (names ++ added) ≡ true
IsAdded false names added new = (any_twice (names ++ added) ≡ false) × (new ≡ names ++ added)

-- names that a declaration declares: one stands twice, or is among those of the globals
abbrev pub declared_in : List Name → List Name → Bool
declared_in globals names = any_twice names || list_any (has_name globals) names

-- the first of these items in which a name stands twice, where the first has this place among them
abbrev pub first_twice : {A : Type 0} → (ℕ → A → List Place) → ℕ → List A → Option Refusal
first_twice places_in place items = first_of (map (refusal_at E10) (each_place places_in place items))

-- what comes of declaring items one by one: the answer is the wanted one, and where nothing is refused the set has
-- their names
abbrev pub Declares : Option Refusal → Option Refusal → List Name → List Name → Type 0
Declares None wanted names new = (wanted ≡ None) × (new ≡ names)
Declares (Some refusal) wanted names new = wanted ≡ Some refusal
