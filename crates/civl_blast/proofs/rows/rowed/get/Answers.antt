use Rattle.std.proofs.Common.{◌∙◌, arith}
use Rattle.civl_blast.proofs.rows.Parts.{here_below, here_within}
use Rattle.civl_blast.proofs.rows.RowCells.{read_ready, read_made}
use Rattle.civl_blast.proofs.rows.rowed.get.Goals as goal

pub index_of-bits-requires : goal.index_of-bits-requires
index_of-bits-requires c = let p = here_below c.requires.here in let w = here_within c.requires.here in omega (arith, p.0)

pub cell-place-requires-clause-within : goal.cell-place-requires-clause-within
cell-place-requires-clause-within c = let p = here_below c.requires.here in omega (arith, p.1, c.requires.size)

pub cell-place-requires-clause-some : goal.cell-place-requires-clause-some
cell-place-requires-clause-some c = (read_ready _ c.requires.here c.index_of-bits.ensures).at.some

pub cells-from-requires : goal.cells-from-requires
cells-from-requires c = let p = here_below c.requires.here in omega (arith, p.0, c.requires.size)

pub read_cell-requires-clause-index : goal.read_cell-requires-clause-index
read_cell-requires-clause-index c = (read_ready _ c.requires.here c.index_of-bits.ensures).low

pub read_cell-requires-clause-size : goal.read_cell-requires-clause-size
read_cell-requires-clause-size c = rw c.cells-from.ensures (read_ready _ c.requires.here c.index_of-bits.ensures).cells.size

pub read_cell-requires-clause-at : goal.read_cell-requires-clause-at
read_cell-requires-clause-at c = let r = read_ready _ c.requires.here c.index_of-bits.ensures in rw c.cell-place.ensures (r.at.sorted ∙ r.at_sort)

pub read_cell-requires-clause-plain : goal.read_cell-requires-clause-plain
read_cell-requires-clause-plain c = rw c.cells-from.ensures (read_ready _ c.requires.here c.index_of-bits.ensures).cells.plain

pub read_cell-requires-clause-sorted : goal.read_cell-requires-clause-sorted
read_cell-requires-clause-sorted c = rw c.cells-from.ensures (read_ready _ c.requires.here c.index_of-bits.ensures).cells.same

pub returns-clause-made : goal.returns-clause-made
returns-clause-made c =
    read_made c.args.table.now c.args.row c.args.index c.args.at _ c.index_of-bits.result _ c.requires.here c.index_of-bits.ensures (rw (c.cell-place.ensures, c.cells-from.ensures) at c.in_ok-id.ensures.made) c.in_ok-ids.ensures
