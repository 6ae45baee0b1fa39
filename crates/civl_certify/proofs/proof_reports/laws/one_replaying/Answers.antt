use Rattle.civl_certify.proofs.proof_reports.Agreeing as agreeing
use Rattle.civl_certify.proofs.proof_reports.laws.one_replaying.Goals as goal

pub returns : goal.returns
returns c = agreeing.one_replaying
