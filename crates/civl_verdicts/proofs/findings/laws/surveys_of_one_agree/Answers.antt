use Rattle.civl_verdicts.proofs.findings.Surveying as surveying
use Rattle.civl_verdicts.proofs.findings.laws.surveys_of_one_agree.Goals as goal

pub returns : goal.returns
returns c = surveying.surveys_of_one_agree
