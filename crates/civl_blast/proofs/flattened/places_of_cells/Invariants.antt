use Rattle.std.proofs.Common.{◌≡◌, map, take}
use Rattle.civl_blast.specs.inner.Renaming.{place_of_cell}
use Rattle.civl_blast.proofs.flattened.places_of_cells.Given as goal

abbrev pub invariant-loop-place : goal.invariant-loop-place
invariant-loop-place l = l.renamed.items ≡ map (place_of_cell l.cells) (take l.place-index l.places)
