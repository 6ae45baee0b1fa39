-- What a walk over numbered parts comes to.
use Rattle.std.specs.Prelude.{ℕ, zero, suc, ◌+◌, List, [], ◌∷◌, length}
use Rattle.civl_tree.specs.Token.{Token}
use Rattle.civl_places.specs.declared.walk.Walk.{Walk}
use Rattle.civl_places.specs.declared.walk.Walk.TheVariants.{Found, Left}

-- the start at this place, or what is left of the number behind all
abbrev pub walked : List ℕ → ℕ → Walk
walked [] number = Left number
walked (start ∷ starts) zero = Found start
walked (start ∷ starts) (suc number) = walked starts number

-- the same of two walks, the second where the first comes to no end
abbrev pub go_on : Walk → List ℕ → Walk
go_on (Found token) starts = Found token
go_on (Left number) starts = walked starts number

-- where phrases begin of which the first begins at this token
abbrev pub starts_each : ℕ → List (List Token) → List ℕ
starts_each at [] = []
starts_each at (phrase ∷ phrases) = at ∷ starts_each (at + length phrase) phrases
