use Rattle.civl_blast.specs.inner.rows.Expanding.{Expands}
use Rattle.civl_blast.proofs.rows.expand.expand.Given as goal

abbrev pub invariant-loop-cell : goal.invariant-loop-cell
invariant-loop-cell l = Expands l.fn.terms l.terms l.fn.cells.items l.cells.items l.variable l.index l.width l.cell l.ids.items
