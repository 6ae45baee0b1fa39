use Rattle.civl_certify.proofs.proof_reports.Alone as alone
use Rattle.civl_certify.proofs.proof_reports.laws.refuted_is_unsatisfiable.Goals as goal

pub returns : goal.returns
returns c = alone.refuted_is_unsatisfiable
