use Rattle.civl_blast.proofs.rows.Worked.{worked_reaches, worked_rows, worked_entries}
use Rattle.civl_blast.proofs.rows.laws.worked_term.Goals as goal

pub returns : goal.returns
returns c = record { reaches = worked_reaches; rows = worked_rows; entries = worked_entries }
