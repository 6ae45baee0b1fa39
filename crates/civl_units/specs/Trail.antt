-- The values of the variables, and the order in which they were given.
use Rattle.std.specs.Prelude.{◌≡◌, ℕ, ◌<◌, ◌+◌, List, [], ◌∷◌, ◌++◌, Bool, Option, None, Some, All, Contains, length, slice_set, slice_index_or}
use Rattle.civl_cnf.specs.Literal.{Literal}

-- the values that variables have, and the variables in the order in which they were given one
pub record Marking : Type 0 where
  pub values : List (Option Bool)
  pub trail : List ℕ

-- the literal's variable has no value
abbrev pub IsOpen : List (Option Bool) → Literal → Type 0
IsOpen values l = slice_index_or values l.variable None ≡ None

-- the literal is made true
abbrev pub with_mark : Marking → Literal → Marking
with_mark marking l = record {
  values = slice_set marking.values l.variable (Some l.positive);
  trail = marking.trail ++ l.variable ∷ [];
}

-- how many variables have no value
abbrev pub open_count : List (Option Bool) → ℕ
open_count [] = 0
open_count (None ∷ values) = 1 + open_count values
open_count (Some b ∷ values) = open_count values

-- each variable that has a value stands in the trail, which is as long as there are such variables
pub record IsTrail (values : List (Option Bool)) (trail : List ℕ) : Type 0 where
  pub below : All (λ v. v < length values) trail
  pub whole : (v : ℕ) → (Contains trail v → ⊥) → slice_index_or values v None ≡ None
  pub count : length trail + open_count values ≡ length values
