use Rattle.civl_verdicts.proofs.findings.Surveying as surveying
use Rattle.civl_verdicts.proofs.findings.laws.each_program_has_a_survey.Goals as goal

pub returns : goal.returns
returns c = surveying.each_program_has_a_survey
