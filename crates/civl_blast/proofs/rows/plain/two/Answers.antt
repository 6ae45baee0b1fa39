use Rattle.std.proofs.Common.{arith}
use Rattle.civl_blast.proofs.rows.Parts.{here_below, here_inside, single_inside}
use Rattle.civl_blast.proofs.rows.PlainCells.{two_first, two_second, two_is_plain, two_made}
use Rattle.civl_blast.proofs.rows.plain.two.Goals as goal

pub cell-first-requires-clause-within : goal.cell-first-requires-clause-within
cell-first-requires-clause-within c = let p = here_below c.requires.here in omega (arith, p.0, c.requires.size)

pub cell-first-requires-clause-some : goal.cell-first-requires-clause-some
cell-first-requires-clause-some c = (two_first c.requires.other c.requires.here).some

pub cell-second-requires-clause-within : goal.cell-second-requires-clause-within
cell-second-requires-clause-within c = let p = here_below c.requires.here in omega (arith, p.1, c.requires.size)

pub cell-second-requires-clause-some : goal.cell-second-requires-clause-some
cell-second-requires-clause-some c = (two_second c.requires.other c.requires.here).some

pub two-requires-clause-a : goal.two-requires-clause-a
two-requires-clause-a c = let p = here_below c.requires.here in rw c.cell-first.ensures (single_inside (two_first c.requires.other c.requires.here) (here_inside c.requires.here) (omega (arith, p.0)))

pub two-requires-clause-b : goal.two-requires-clause-b
two-requires-clause-b c = let p = here_below c.requires.here in rw c.cell-second.ensures (single_inside (two_second c.requires.other c.requires.here) (here_inside c.requires.here) (omega (arith, p.1)))

pub two-requires-clause-plain : goal.two-requires-clause-plain
two-requires-clause-plain c = rw (c.cell-first.ensures, c.cell-second.ensures) (two_is_plain c.requires.other c.requires.here)

pub returns-clause-made : goal.returns-clause-made
returns-clause-made c = two_made c.args.table.now c.args.op c.args.a c.args.b c.args.at _ _ c.requires.other c.requires.here (rw (c.cell-first.ensures, c.cell-second.ensures) at c.in_ok-id.ensures.made) c.in_ok-ids.ensures
