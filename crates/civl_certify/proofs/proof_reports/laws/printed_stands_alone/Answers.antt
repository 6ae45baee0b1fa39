use Rattle.civl_certify.proofs.proof_reports.Alone as alone
use Rattle.civl_certify.proofs.proof_reports.laws.printed_stands_alone.Goals as goal

pub returns : goal.returns
returns c = alone.printed_stands_alone
