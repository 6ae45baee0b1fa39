use Rattle.civl_blast.proofs.rows.Worked.{worked_reads}
use Rattle.civl_blast.proofs.rows.laws.worked_cells.Goals as goal

pub returns-clause-reads : goal.returns-clause-reads
returns-clause-reads c = worked_reads
