-- For private functions alone: the table of the statements with which a plain program goes on from the places of its bodies.
use Rattle.std.specs.Prelude.{ℕ, ◌≡◌, ◌<◌, ◌≤◌, ◌⊎◌, List, length, Option, None, Some, slice_get}
use Rattle.std.specs.List.{AllZip}
use Rattle.civl_tree.specs.declared.stmt.Stmt.{Stmt}
use Rattle.civl_tree.specs.declared.program.Proc.{Proc}
use Rattle.civl_meaning.specs.declared.config.Plain.{Plain}
use Rattle.civl_meaning.specs.declared.remaining.Numbered.{Numbered}
use Rattle.civl_meaning.specs.Places.{Spot, spot_at}
use Rattle.civl_history.specs.declared.spots.BodySpots.{BodySpots}
use Rattle.civl_history.specs.declared.spots.Spots.{Spots}

-- a statement with its number, as the code finds it
abbrev pub found : Option Numbered → Option (ℕ × Stmt)
found None = None
found (Some numbered) = Some (numbered.number, numbered.stmt.now)

-- a spot's statement with its number
abbrev pub numbered_spot : Option Spot → Option (ℕ × Stmt)
numbered_spot None = None
numbered_spot (Some spot) = Some (spot.number, spot.stmt)

-- the code finds this spot
abbrev pub IsFound : Option Numbered → Option Spot → Type 0
IsFound numbered spot = found numbered ≡ numbered_spot spot

abbrev pub entry_in : Option (Option Numbered) → Option Numbered
entry_in None = None
entry_in (Some entry) = entry

-- the entry for a place; behind the last entry nothing is found
abbrev pub entry : List (Option Numbered) → ℕ → Option Numbered
entry entries place = entry_in (slice_get entries place)

-- the entries from `low` on and below `high` are what stands there, and all others stay
pub record Filled (old new : List (Option Numbered)) (low high : ℕ) (there : ℕ → Option Spot) : Type 0 where
  pub long : length new ≡ length old
  pub inside : (place : ℕ) → low ≤ place → place < high → IsFound (entry new place) (there place)
  pub outside : (place : ℕ) → (place < low) ⊎ (high ≤ place) → entry new place ≡ entry old place

-- the entry for each place is what stands there
abbrev pub AreSpotsOf : Proc → BodySpots → Type 0
AreSpotsOf proc spots = (place : ℕ) → IsFound (entry spots.entries.items place) (spot_at proc.body place)

-- a table for each procedure, in their order
abbrev pub AreSpots : Plain → Spots → Type 0
AreSpots plain spots = AllZip AreSpotsOf plain.program.procs spots.procs.items
