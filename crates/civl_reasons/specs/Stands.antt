-- Where tokens stand among others.
use Rattle.std.specs.Prelude.{◌≡◌, ℕ, List, ◌++◌, length}
use Rattle.civl_tree.specs.Token.{Token}

-- these tokens stand in the others from this place on
pub record StandAt (part all : List Token) (place : ℕ) : Type 0 where
  pub before : List Token
  pub after : List Token
  pub parts : all ≡ before ++ (part ++ after)
  pub place_is : length before ≡ place
