use Rattle.std.proofs.Common.{arith}
use Rattle.civl_blast.proofs.rows.Parts.{here_below}
use Rattle.civl_blast.proofs.rows.RowCells.{fill_one, fill_index, few_bits, fill_made}
use Rattle.civl_blast.proofs.rows.rowed.fill.Goals as goal

pub cell-first-requires-clause-within : goal.cell-first-requires-clause-within
cell-first-requires-clause-within c = omega (arith, here_below c.requires.here, c.requires.size)

pub cell-first-requires-clause-some : goal.cell-first-requires-clause-some
cell-first-requires-clause-some c = (fill_one c.requires.here).some

pub fill_cells-requires : goal.fill_cells-requires
fill_cells-requires c = few_bits c.args.index (fill_index c.requires.here)

pub returns : goal.returns
returns c = fill_made c.args.table.now c.args.index c.args.a c.args.at _ c.requires.here (rw c.cell-first.ensures at c.in_ok-ids.ensures)
