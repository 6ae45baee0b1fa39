use Rattle.civl_parser.proofs.Printed as law
use Rattle.civl_parser.proofs.laws.parses_raised.Goals as goal

pub returns : goal.returns
returns c = law.parses_raised
