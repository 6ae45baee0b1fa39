-- Serves private functions: the statements of a body, each with what comes after it.
use Rattle.std.specs.Prelude.{ℕ, ◌≡◌, ◌<◌, ◌≤◌, false, List, map, length, Option, Some, slice_get}
use Rattle.civl_tree.specs.declared.stmt.Stmt.{Stmt}
use Rattle.civl_tree.specs.Numbering.{statements_of}
use Rattle.civl_meaning.specs.Places.{Spot, is_skipped, spot_at}
use Rattle.civl_outlined.specs.declared.places.Place.{Place}

-- a statement with this number, as it stands there
abbrev pub spot_of : ℕ → Place → Spot
spot_of number place = record { number = number; stmt = place.stmt.now; next = place.next }

-- the places from `low` on and below `high` were added, and each statement of a plain program among them is what stands there,
-- whatever comes after all of them
pub record Own (old new : List Place) (low high : ℕ) (there : Option Spot → ℕ → Option Spot) : Type 0 where
  pub long : length new ≡ high
  pub before : (number : ℕ) → number < low → slice_get new number ≡ slice_get old number
  pub inside : (after : Option Spot) (number : ℕ) (place : Place) → low ≤ number → number < high → slice_get new number ≡ Some place → is_skipped place.stmt.now ≡ false → there after number ≡ Some (spot_of number place)

-- these are the statements of a body in text order, and each that a plain program has stands at its own number
pub record ArePlaces (body : List Stmt) (places : List Place) : Type 0 where
  pub statements : map (λ p. p.stmt.now) places ≡ statements_of body
  pub spots : (number : ℕ) (place : Place) → slice_get places number ≡ Some place → is_skipped place.stmt.now ≡ false → spot_at body number ≡ Some (spot_of number place)
