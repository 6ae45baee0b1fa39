use Rattle.civl_certify.proofs.proof_reports.Existing as existing
use Rattle.civl_certify.proofs.proof_reports.laws.each_program_has_a_making.Goals as goal

pub returns : goal.returns
returns c = existing.each_program_has_a_making
