use Rattle.civl_certify.proofs.proof_reports.Scanning as scanning
use Rattle.civl_certify.proofs.proof_reports.laws.each_text_has_a_replaying.Goals as goal

pub returns : goal.returns
returns c = scanning.each_text_has_a_replaying
