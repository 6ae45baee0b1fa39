use Rattle.civl_blast.proofs.rows.RowCells.{row_made}
use Rattle.civl_blast.proofs.rows.rowed.constant.Goals as goal

pub returns-clause-made : goal.returns-clause-made
returns-clause-made c = λ table. row_made table c.args.row c.args.at _ (c.requires.here table) c.in_ok-ids.ensures.made
