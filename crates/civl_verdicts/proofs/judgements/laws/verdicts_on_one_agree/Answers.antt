use Rattle.civl_verdicts.proofs.judgements.Judging as judging
use Rattle.civl_verdicts.proofs.judgements.laws.verdicts_on_one_agree.Goals as goal

pub returns : goal.returns
returns c = judging.verdicts_on_one_agree
