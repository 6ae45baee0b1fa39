use Rattle.civl_bits.proofs.Widths.{results_fit, concatenation-lt}
use Rattle.civl_bits.proofs.laws.widths.Goals as goal

pub returns-clause-operations : goal.returns-clause-operations
returns-clause-operations c = results_fit

pub returns-clause-join : goal.returns-clause-join
returns-clause-join c = concatenation-lt
