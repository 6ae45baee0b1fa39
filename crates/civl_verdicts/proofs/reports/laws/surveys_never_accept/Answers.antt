use Rattle.civl_verdicts.proofs.reports.Quiet.{never_accepts}
use Rattle.civl_verdicts.proofs.reports.laws.surveys_never_accept.Goals as goal

pub returns : goal.returns
returns c = never_accepts
