use Rattle.civl_terms.proofs.Worked.{square_value, below_value}
use Rattle.civl_terms.proofs.laws.worked_values.Goals as goal

pub returns-clause-square : goal.returns-clause-square
returns-clause-square c = square_value

pub returns-clause-below : goal.returns-clause-below
returns-clause-below c = below_value
