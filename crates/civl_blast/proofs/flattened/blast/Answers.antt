use Rattle.civl_blast.proofs.Renaming.{stands_for_cells}
use Rattle.civl_blast.proofs.Giving.{flattened, gives_for_cells, names_cells}
use Rattle.civl_blast.proofs.flattened.blast.Goals as goal

pub places_of_cells-requires : goal.places_of_cells-requires
places_of_cells-requires c = rw c.as_slice.ensures (record { counts = (_, c.in_ok-flat.ensures.entries.numbers) })

pub returns-clause-stands : goal.returns-clause-stands
returns-clause-stands c =
    rw (c.from_vec.ensures, c.in_ok-renamed.ensures, c.as_slice.ensures, c.as_slice-2.ensures)
    (stands_for_cells _ _ c.len-count.ensures.graph c.in_ok-flat.ensures.entries c.in_ok-flat.ensures.fits c.in_ok-flat.ensures.value c.in_ok-cnf.ensures.stands)

pub returns-clause-places : goal.returns-clause-places
returns-clause-places c =
    rw (c.from_vec.ensures, c.in_ok-renamed.ensures, c.as_slice.ensures, c.as_slice-2.ensures)
    (names_cells (flattened c.in_ok-flat.ensures.grows c.len-count.ensures.graph c.len-grown.ensures.graph c.in_ok-flat.ensures.rowless c.in_ok-flat.ensures.entries c.in_ok-flat.ensures.reaches c.in_ok-flat.ensures.fits c.in_ok-flat.ensures.value) c.in_ok-cnf.ensures.places)

pub returns-clause-back : goal.returns-clause-back
returns-clause-back c =
    rw (c.from_vec.ensures, c.in_ok-renamed.ensures, c.as_slice.ensures, c.as_slice-2.ensures)
    (gives_for_cells (flattened c.in_ok-flat.ensures.grows c.len-count.ensures.graph c.len-grown.ensures.graph c.in_ok-flat.ensures.rowless c.in_ok-flat.ensures.entries c.in_ok-flat.ensures.reaches c.in_ok-flat.ensures.fits c.in_ok-flat.ensures.value) c.in_ok-cnf.ensures.places c.in_ok-cnf.ensures.back)
