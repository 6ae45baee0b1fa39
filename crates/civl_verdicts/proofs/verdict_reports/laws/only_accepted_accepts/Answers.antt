use Rattle.civl_verdicts.proofs.verdict_reports.Beginning as beginning
use Rattle.civl_verdicts.proofs.verdict_reports.laws.only_accepted_accepts.Goals as goal

pub returns : goal.returns
returns c = beginning.only_accepted_accepts
