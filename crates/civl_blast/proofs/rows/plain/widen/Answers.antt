use Rattle.std.proofs.Common.{arith}
use Rattle.civl_blast.proofs.rows.Parts.{here_below, here_inside, single_inside}
use Rattle.civl_blast.proofs.rows.PlainCells.{widen_single, widen_is_plain, widen_made}
use Rattle.civl_blast.proofs.rows.plain.widen.Goals as goal

pub cell-first-requires-clause-within : goal.cell-first-requires-clause-within
cell-first-requires-clause-within c = omega (arith, here_below c.requires.here, c.requires.size)

pub cell-first-requires-clause-some : goal.cell-first-requires-clause-some
cell-first-requires-clause-some c = (widen_single c.requires.here).some

pub widen-requires-clause-a : goal.widen-requires-clause-a
widen-requires-clause-a c =
    rw c.cell-first.ensures (single_inside (widen_single c.requires.here) (here_inside c.requires.here) (omega (arith, here_below c.requires.here)))

pub widen-requires-clause-plain : goal.widen-requires-clause-plain
widen-requires-clause-plain c = rw c.cell-first.ensures (widen_is_plain c.requires.here)

pub returns-clause-made : goal.returns-clause-made
returns-clause-made c = widen_made c.args.table.now c.args.a c.args.width c.args.at _ _ c.requires.here (rw c.cell-first.ensures at c.in_ok-id.ensures.made) c.in_ok-ids.ensures
