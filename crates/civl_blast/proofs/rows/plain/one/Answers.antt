use Rattle.std.proofs.Common.{arith}
use Rattle.civl_blast.proofs.rows.Parts.{here_below, here_inside, single_inside}
use Rattle.civl_blast.proofs.rows.PlainCells.{one_single, one_is_plain, one_made}
use Rattle.civl_blast.proofs.rows.plain.one.Goals as goal

pub cell-first-requires-clause-within : goal.cell-first-requires-clause-within
cell-first-requires-clause-within c = omega (arith, here_below c.requires.here, c.requires.size)

pub cell-first-requires-clause-some : goal.cell-first-requires-clause-some
cell-first-requires-clause-some c = (one_single c.requires.here).some

pub one-requires-clause-a : goal.one-requires-clause-a
one-requires-clause-a c =
    rw c.cell-first.ensures (single_inside (one_single c.requires.here) (here_inside c.requires.here) (omega (arith, here_below c.requires.here)))

pub one-requires-clause-plain : goal.one-requires-clause-plain
one-requires-clause-plain c = rw c.cell-first.ensures (one_is_plain c.requires.here)

pub returns-clause-made : goal.returns-clause-made
returns-clause-made c = one_made c.args.table.now c.args.op c.args.a c.args.at _ _ c.requires.here (rw c.cell-first.ensures at c.in_ok-id.ensures.made) c.in_ok-ids.ensures
