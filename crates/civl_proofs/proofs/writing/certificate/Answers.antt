use Rattle.std.proofs.Common.{List, ℕ, sym, subst}
use Rattle.civl_proofs.specs.Text.{IsCertificate}
use Rattle.civl_proofs.proofs.Canonical.{canonical_is_read}
use Rattle.civl_proofs.proofs.writing.certificate.Goals as goal

pub returns-clause-certificate : goal.returns-clause-certificate
returns-clause-certificate c = λ held.
    subst (λ (text : List ℕ). IsCertificate text c.args.cnf.now c.args.log.now) (sym c.in_ok-out.ensures) (canonical_is_read c.args.cnf.now c.args.log.now held)
