use Rattle.civl_certify.proofs.proof_reports.Agreeing as agreeing
use Rattle.civl_certify.proofs.proof_reports.laws.makings_agree.Goals as goal

pub returns : goal.returns
returns c = agreeing.makings_agree
