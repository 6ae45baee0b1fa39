use Rattle.civl_verdicts.proofs.judgements.Judging as judging
use Rattle.civl_verdicts.proofs.judgements.laws.each_program_has_a_verdict.Goals as goal

pub returns : goal.returns
returns c = judging.each_program_has_a_verdict
