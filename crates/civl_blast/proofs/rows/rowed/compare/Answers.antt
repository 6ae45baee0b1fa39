use Rattle.std.proofs.Common.{sym, ◌∙◌, arith}
use Rattle.civl_blast.proofs.rows.Parts.{here_below}
use Rattle.civl_blast.proofs.rows.RowCells.{compare_ready, joins_comparison, joins_join, compare_made}
use Rattle.civl_blast.proofs.rows.rowed.compare.Goals as goal

pub cells-first-requires : goal.cells-first-requires
cells-first-requires c = let p = here_below c.requires.here in omega (arith, p.0, c.requires.size)

pub cells-second-requires : goal.cells-second-requires
cells-second-requires c = let p = here_below c.requires.here in omega (arith, p.1, c.requires.size)

pub compare-requires-clause-op : goal.compare-requires-clause-op
compare-requires-clause-op c = joins_comparison _ _ c.requires.joins

pub compare-requires-clause-join : goal.compare-requires-clause-join
compare-requires-clause-join c = joins_join _ _ c.requires.joins

pub compare-requires-clause-some : goal.compare-requires-clause-some
compare-requires-clause-some c = rw c.cells-first.ensures (compare_ready (joins_comparison _ _ c.requires.joins) c.requires.here).first.some

pub compare-requires-clause-size : goal.compare-requires-clause-size
compare-requires-clause-size c =
    let r = compare_ready (joins_comparison _ _ c.requires.joins) c.requires.here in
    rw (c.cells-first.ensures, c.cells-second.ensures) (r.second.size ∙ sym r.first.size)

pub compare-requires-clause-plain : goal.compare-requires-clause-plain
compare-requires-clause-plain c = rw c.cells-first.ensures (compare_ready (joins_comparison _ _ c.requires.joins) c.requires.here).first.plain

pub compare-requires-clause-a : goal.compare-requires-clause-a
compare-requires-clause-a c = rw c.cells-first.ensures (compare_ready (joins_comparison _ _ c.requires.joins) c.requires.here).first.same

pub compare-requires-clause-b : goal.compare-requires-clause-b
compare-requires-clause-b c =
    let r = compare_ready (joins_comparison _ _ c.requires.joins) c.requires.here in
    rw (c.cells-first.ensures, c.cells-second.ensures) (λ i l. r.second.sorted i l ∙ sym r.first.first)

pub returns-clause-made : goal.returns-clause-made
returns-clause-made c =
    compare_made c.args.table.now c.args.op c.args.join c.args.a c.args.b c.args.at _ _ c.requires.joins c.requires.here (rw (c.cells-first.ensures, c.cells-second.ensures) at c.in_ok-id.ensures.made) c.in_ok-ids.ensures
