use Rattle.civl_prove.proofs.outline_reports.Agreeing as agreeing
use Rattle.civl_prove.proofs.outline_reports.laws.provings_agree.Goals as goal

pub returns : goal.returns
returns c = agreeing.provings_agree
