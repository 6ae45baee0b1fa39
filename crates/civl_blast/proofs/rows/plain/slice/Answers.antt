use Rattle.std.proofs.Common.{arith}
use Rattle.civl_blast.proofs.rows.Parts.{here_below, here_inside, single_inside}
use Rattle.civl_blast.proofs.rows.PlainCells.{slice_single, slice_is_plain, slice_made}
use Rattle.civl_blast.proofs.rows.plain.slice.Goals as goal

pub cell-first-requires-clause-within : goal.cell-first-requires-clause-within
cell-first-requires-clause-within c = omega (arith, here_below c.requires.here, c.requires.size)

pub cell-first-requires-clause-some : goal.cell-first-requires-clause-some
cell-first-requires-clause-some c = (slice_single c.requires.here).some

pub slice-requires-clause-a : goal.slice-requires-clause-a
slice-requires-clause-a c =
    rw c.cell-first.ensures (single_inside (slice_single c.requires.here) (here_inside c.requires.here) (omega (arith, here_below c.requires.here)))

pub slice-requires-clause-plain : goal.slice-requires-clause-plain
slice-requires-clause-plain c = rw c.cell-first.ensures (slice_is_plain c.requires.here)

pub returns-clause-made : goal.returns-clause-made
returns-clause-made c = slice_made c.args.table.now c.args.a c.args.high c.args.low c.args.at _ _ c.requires.here (rw c.cell-first.ensures at c.in_ok-id.ensures.made) c.in_ok-ids.ensures
