use Rattle.civl_terms.proofs.Worked.{variable, square, below, all}
use Rattle.civl_terms.proofs.laws.worked_weights.Goals as goal

pub returns-clause-variable : goal.returns-clause-variable
returns-clause-variable c = variable

pub returns-clause-square : goal.returns-clause-square
returns-clause-square c = square

pub returns-clause-below : goal.returns-clause-below
returns-clause-below c = below

pub returns-clause-all : goal.returns-clause-all
returns-clause-all c = all
