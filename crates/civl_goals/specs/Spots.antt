-- The places of notes, and sets of them; `spot_of` is cited by public calls.
use Rattle.std.specs.Prelude.{Bool, ◌&&◌, nat_eq, if◌then◌else◌, List, [], ◌∷◌, ◌++◌}
use Rattle.std.specs.List.{list_any}
use Rattle.civl_outlines.specs.declared.outline.Note.{Note}
use Rattle.civl_goals.specs.declared.spots.Spot.{Spot}
use Rattle.civl_goals.specs.declared.spots.Spots.{Spots}

-- whether two places are the same
abbrev pub same_spot : Spot → Spot → Bool
same_spot a b = nat_eq a.item b.item && nat_eq a.statement b.statement

-- where a note stands
abbrev pub spot_of : Note → Spot
spot_of note = record { item = note.item; statement = note.statement }

-- the places in a set, each once, in the order in which they were added
abbrev pub spots_in : Spots → List Spot
spots_in set = set.keys.keys

abbrev pub has_spot : List Spot → Spot → Bool
has_spot spots spot = list_any (same_spot spot) spots

-- a place behind these, unless it is one of them
abbrev pub with_spot : List Spot → Spot → List Spot
with_spot spots spot = if has_spot spots spot then spots else spots ++ spot ∷ []

-- those of these notes, behind others
abbrev pub with_notes : List Spot → List Note → List Spot
with_notes spots [] = spots
with_notes spots (note ∷ notes) = with_notes (with_spot spots (spot_of note)) notes
