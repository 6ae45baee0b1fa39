use Rattle.std.proofs.Common.{ap, Err}
use Rattle.civl_proofs.specs.declared.fault.CertificateFault.{CertificateFault}
use Rattle.civl_certify.proofs.proof_reports.Finding.{replay_is}
use Rattle.civl_certify.proofs.proof_reports.replaying.replay_text.Goals as goal

pub returns-in_ok-found-in-Ok : goal.returns-in_ok-found-in-Ok
returns-in_ok-found-in-Ok c = let e = c.in_ok-found-in-Ok.ensures in (c.in-Ok.cnf, c.in-Ok.log, c.in-Ok.ensures.certificate, replay_is c.in-Ok.cnf c.in-Ok.log c.in_ok-found-in-Ok.found e.not_rup e.no_empty e.refutes)

pub returns-in-Err-At : goal.returns-in-Err-At
returns-in-Err-At c = rw c.in-Err-At.field-0-is (c.in-Err-At.ensures.fault c.in-Err-At.place (ap (λ (fault : CertificateFault). Err fault) c.in-Err-At.field-0-is))
