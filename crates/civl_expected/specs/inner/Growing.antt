-- One step of making a list of what holds.
use Rattle.std.specs.Prelude.{◌≡◌, List, [], ◌∷◌, ◌++◌, ◌⊎◌}
use Rattle.civl_tree.specs.Token.{Token}

-- the token comes behind those before exactly where it holds of it
abbrev pub GrowsBy : (Token → Type 0) → Token → List Token → List Token → Type 0
GrowsBy holds token before after = (holds token × (after ≡ before ++ token ∷ [])) ⊎ ((holds token → ⊥) × (after ≡ before))
