-- The table of what stands at the places of a plain program's procedures.
use Rattle.std.specs.Prelude.{ℕ, ◌≡◌, List, Option, None, Some, slice_get}
use Rattle.std.specs.List.{AllZip}
use Rattle.civl_tree.specs.declared.program.Proc.{Proc}
use Rattle.civl_meaning.specs.declared.config.Plain.{Plain}
use Rattle.civl_meaning.specs.declared.found.Found.{Found}
use Rattle.civl_meaning.specs.declared.table.BodyPlaces.{BodyPlaces}
use Rattle.civl_meaning.specs.declared.table.Places.{Places}
use Rattle.civl_meaning.specs.Places.{Spot, spot_at}
use Rattle.civl_meaning.specs.Found.{spot, Fits}

-- what was found is this spot, and the places inside it are as they should be
pub record IsFound (found : Option Found) (there : Option Spot) : Type 0 where
  pub spot : spot found ≡ there
  pub fits : Fits found

abbrev pub found_in : Option (Option Found) → Option Found
found_in None = None
found_in (Some found) = found

-- the entry for a place; behind the last entry nothing is found
abbrev pub entry : List (Option Found) → ℕ → Option Found
entry entries place = found_in (slice_get entries place)

-- the entry for each place is what stands there
abbrev pub ArePlacesOf : Proc → BodyPlaces → Type 0
ArePlacesOf proc places = (place : ℕ) → IsFound (entry places.found.items place) (spot_at proc.body place)

-- a table for each procedure, in their order
abbrev pub ArePlaces : Plain → Places → Type 0
ArePlaces plain places = AllZip ArePlacesOf plain.program.procs places.procs.items
