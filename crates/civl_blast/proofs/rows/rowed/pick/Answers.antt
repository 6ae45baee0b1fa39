use Rattle.std.proofs.Common.{sym, ◌∙◌, arith}
use Rattle.civl_blast.proofs.rows.Parts.{here_below}
use Rattle.civl_blast.proofs.rows.RowCells.{pick_ready, pick_made}
use Rattle.civl_blast.proofs.rows.rowed.pick.Goals as goal

pub cell-test-requires-clause-within : goal.cell-test-requires-clause-within
cell-test-requires-clause-within c = let p = here_below c.requires.here in omega (arith, p.0, c.requires.size)

pub cell-test-requires-clause-some : goal.cell-test-requires-clause-some
cell-test-requires-clause-some c = (pick_ready c.requires.here).test.some

pub cells-first-requires : goal.cells-first-requires
cells-first-requires c = let p = here_below c.requires.here in omega (arith, p.1, c.requires.size)

pub cells-second-requires : goal.cells-second-requires
cells-second-requires c = let p = here_below c.requires.here in omega (arith, p.2, c.requires.size)

pub pick_cells-requires-clause-test : goal.pick_cells-requires-clause-test
pick_cells-requires-clause-test c = let r = pick_ready c.requires.here in rw c.cell-test.ensures (r.test.sorted ∙ r.truth)

pub pick_cells-requires-clause-size : goal.pick_cells-requires-clause-size
pick_cells-requires-clause-size c =
    let r = pick_ready c.requires.here in
    rw (c.cells-first.ensures, c.cells-second.ensures) (r.second.size ∙ sym r.first.size)

pub pick_cells-requires-clause-plain : goal.pick_cells-requires-clause-plain
pick_cells-requires-clause-plain c = let r = pick_ready c.requires.here in rw c.cells-first.ensures r.first.plain

pub pick_cells-requires-clause-a : goal.pick_cells-requires-clause-a
pick_cells-requires-clause-a c = let r = pick_ready c.requires.here in rw c.cells-first.ensures r.first.same

pub pick_cells-requires-clause-b : goal.pick_cells-requires-clause-b
pick_cells-requires-clause-b c =
    let r = pick_ready c.requires.here in
    rw (c.cells-first.ensures, c.cells-second.ensures) (λ i l. r.second.sorted i l ∙ sym r.first.first)

pub returns-clause-made : goal.returns-clause-made
returns-clause-made c =
    pick_made c.args.table.now c.args.c c.args.a c.args.b c.args.at _ c.requires.here (rw (c.cell-test.ensures, c.cells-first.ensures, c.cells-second.ensures) at c.in_ok-ids.ensures.made)
