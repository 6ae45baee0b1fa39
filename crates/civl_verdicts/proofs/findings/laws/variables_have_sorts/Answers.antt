use Rattle.civl_verdicts.proofs.findings.Sorted as sorted
use Rattle.civl_verdicts.proofs.findings.laws.variables_have_sorts.Goals as goal

pub returns : goal.returns
returns c = sorted.variables_have_sorts
