-- Flags, one by one.
use Rattle.std.proofs.Common.{◌≡◌, Bool, true, List, [], ◌∷◌, refl}
use Rattle.civl_linear.specs.Held.{both_held, covers}

-- no flags are left in the second list
pub covers_none : (held : List Bool) → covers held [] ≡ true
covers_none [] = refl
covers_none (one ∷ held) = refl

pub both_none : (held : List Bool) → both_held held [] ≡ []
both_none [] = refl
both_none (one ∷ held) = refl
