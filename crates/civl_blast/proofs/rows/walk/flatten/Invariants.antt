use Rattle.civl_blast.proofs.rows.Walked.{Flattening}
use Rattle.civl_blast.proofs.rows.walk.flatten.Given as goal

abbrev pub invariant-loop-at : goal.invariant-loop-at
invariant-loop-at l = Flattening l.fn.terms l.terms l.id l.marks.items l.cells.items l.table.items l.at
