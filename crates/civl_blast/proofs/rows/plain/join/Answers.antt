use Rattle.std.proofs.Common.{arith}
use Rattle.civl_blast.proofs.rows.Parts.{here_below, here_inside, single_inside}
use Rattle.civl_blast.proofs.rows.PlainCells.{join_first, join_second, join_is_plain, join_made}
use Rattle.civl_blast.proofs.rows.plain.join.Goals as goal

pub cell-first-requires-clause-within : goal.cell-first-requires-clause-within
cell-first-requires-clause-within c = let p = here_below c.requires.here in omega (arith, p.0, c.requires.size)

pub cell-first-requires-clause-some : goal.cell-first-requires-clause-some
cell-first-requires-clause-some c = (join_first c.requires.here).some

pub cell-second-requires-clause-within : goal.cell-second-requires-clause-within
cell-second-requires-clause-within c = let p = here_below c.requires.here in omega (arith, p.1, c.requires.size)

pub cell-second-requires-clause-some : goal.cell-second-requires-clause-some
cell-second-requires-clause-some c = (join_second c.requires.here).some

pub join-requires-clause-a : goal.join-requires-clause-a
join-requires-clause-a c = let p = here_below c.requires.here in rw c.cell-first.ensures (single_inside (join_first c.requires.here) (here_inside c.requires.here) (omega (arith, p.0)))

pub join-requires-clause-b : goal.join-requires-clause-b
join-requires-clause-b c = let p = here_below c.requires.here in rw c.cell-second.ensures (single_inside (join_second c.requires.here) (here_inside c.requires.here) (omega (arith, p.1)))

pub join-requires-clause-plain : goal.join-requires-clause-plain
join-requires-clause-plain c = rw (c.cell-first.ensures, c.cell-second.ensures) (join_is_plain c.requires.here)

pub returns-clause-made : goal.returns-clause-made
returns-clause-made c = join_made c.args.table.now c.args.a c.args.b c.args.at _ _ c.requires.here (rw (c.cell-first.ensures, c.cell-second.ensures) at c.in_ok-id.ensures.made) c.in_ok-ids.ensures
