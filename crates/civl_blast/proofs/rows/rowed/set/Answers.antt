use Rattle.std.proofs.Common.{◌∙◌, arith}
use Rattle.civl_blast.proofs.rows.Parts.{here_below, here_within}
use Rattle.civl_blast.proofs.rows.RowCells.{write_ready, write_made}
use Rattle.civl_blast.proofs.rows.rowed.set.Goals as goal

pub index_of-bits-requires : goal.index_of-bits-requires
index_of-bits-requires c = let p = here_below c.requires.here in let w = here_within c.requires.here in omega (arith, p.0)

pub cell-place-requires-clause-within : goal.cell-place-requires-clause-within
cell-place-requires-clause-within c = let p = here_below c.requires.here in omega (arith, p.1, c.requires.size)

pub cell-place-requires-clause-some : goal.cell-place-requires-clause-some
cell-place-requires-clause-some c = (write_ready _ c.requires.here c.index_of-bits.ensures).at.some

pub cell-value-requires-clause-within : goal.cell-value-requires-clause-within
cell-value-requires-clause-within c = let p = here_below c.requires.here in omega (arith, p.2, c.requires.size)

pub cell-value-requires-clause-some : goal.cell-value-requires-clause-some
cell-value-requires-clause-some c = (write_ready _ c.requires.here c.index_of-bits.ensures).one.some

pub cells-from-requires : goal.cells-from-requires
cells-from-requires c = let p = here_below c.requires.here in omega (arith, p.0, c.requires.size)

pub write_cells-requires-clause-word : goal.write_cells-requires-clause-word
write_cells-requires-clause-word c = (write_ready _ c.requires.here c.index_of-bits.ensures).word

pub write_cells-requires-clause-size : goal.write_cells-requires-clause-size
write_cells-requires-clause-size c = rw c.cells-from.ensures (write_ready _ c.requires.here c.index_of-bits.ensures).cells.size

pub write_cells-requires-clause-at : goal.write_cells-requires-clause-at
write_cells-requires-clause-at c = let r = write_ready _ c.requires.here c.index_of-bits.ensures in rw c.cell-place.ensures (r.at.sorted ∙ r.at_sort)

pub write_cells-requires-clause-plain : goal.write_cells-requires-clause-plain
write_cells-requires-clause-plain c = rw c.cell-value.ensures (write_ready _ c.requires.here c.index_of-bits.ensures).plain

pub write_cells-requires-clause-row : goal.write_cells-requires-clause-row
write_cells-requires-clause-row c = rw (c.cells-from.ensures, c.cell-value.ensures) (write_ready _ c.requires.here c.index_of-bits.ensures).same

pub returns-clause-made : goal.returns-clause-made
returns-clause-made c =
    write_made c.args.table.now c.args.row c.args.index c.args.new c.args.at c.index_of-bits.result _ c.requires.here c.index_of-bits.ensures (rw (c.cell-place.ensures, c.cell-value.ensures, c.cells-from.ensures) at c.in_ok-ids.ensures.made)
