-- For private functions alone: places of cells, where variables stand for cells.
use Rattle.std.specs.Prelude.{◌≡◌, ℕ, ◌+◌, List, [], ◌∷◌, slice_get, Some, nat_eq, if◌then◌else◌}
use Rattle.civl_blast.specs.declared.rows.flat.Cell.{Cell}
use Rattle.civl_blast.specs.declared.blasted.Place.{Place}

-- where the place's variable stands for a cell, the place is that of this cell
abbrev pub place_of_cell : List Cell → Place → Place
place_of_cell [] place = place
place_of_cell (e ∷ es) place = if nat_eq e.number place.variable then record { variable = e.variable; cell = e.cell; first = place.first } else place_of_cell es place

-- the numbers of the cells go up by one from this one
abbrev pub CountFrom : ℕ → List Cell → Type 0
CountFrom start es = (p : ℕ) (e : Cell) → slice_get es p ≡ Some e → e.number ≡ start + p

-- and from any one
abbrev pub CountUp : List Cell → Type 0
CountUp es = (start : ℕ) × CountFrom start es
