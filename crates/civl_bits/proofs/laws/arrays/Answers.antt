use Rattle.civl_bits.proofs.Cells.{same_rows}
use Rattle.civl_bits.proofs.laws.arrays.Goals as goal

pub returns-clause-determined : goal.returns-clause-determined
returns-clause-determined c = same_rows
