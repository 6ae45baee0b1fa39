use Rattle.std.proofs.Common.{ap, Err}
use Rattle.std.proofs.lemmas.Result.{err_from_is_err_and}
use Rattle.civl_proofs.specs.inner.Reading.{whole_of}
use Rattle.civl_proofs.proofs.Answering.{fault_first, no_certificate, that_fault, certificate_found, same_certificate, no_fault}
use Rattle.civl_proofs.proofs.reading.read_certificate.Goals as goal

pub returns-in_err-heading-clause-fault : goal.returns-in_err-heading-clause-fault
returns-in_err-heading-clause-fault c =
    let p = err_from_is_err_and c.from_residual.result c.from_residual.ensures.1 in
    rw (p.1, p.2) (fault_first c.args.bytes.now c.in_err-heading.field-0.0 (λ b h. c.in_err-heading.ensures.fault b (ap Err h)))

pub returns-in_err-heading-clause-only_certificate : goal.returns-in_err-heading-clause-only_certificate
returns-in_err-heading-clause-only_certificate c =
    let p = err_from_is_err_and c.from_residual.result c.from_residual.ensures.1 in
    rw (p.1, p.2) (no_certificate c.args.bytes.now c.in_err-heading.field-0.0 (λ b h. c.in_err-heading.ensures.fault b (ap Err h)))

pub returns-in_err-heading-clause-only_fault : goal.returns-in_err-heading-clause-only_fault
returns-in_err-heading-clause-only_fault c =
    let p = err_from_is_err_and c.from_residual.result c.from_residual.ensures.1 in
    rw (p.1, p.2) (that_fault c.args.bytes.now c.in_err-heading.field-0.0 (λ b h. c.in_err-heading.ensures.fault b (ap Err h)))

pub returns-in_err-keyword-clause-fault : goal.returns-in_err-keyword-clause-fault
returns-in_err-keyword-clause-fault c =
    let p = err_from_is_err_and c.from_residual-in_err-keyword.result c.from_residual-in_err-keyword.ensures.1 in
    rw (p.1, p.2) (fault_first c.args.bytes.now c.in_err-keyword.field-0.0 (λ b h. c.in_err-keyword.ensures.fault b (ap Err h)))

pub returns-in_err-keyword-clause-only_certificate : goal.returns-in_err-keyword-clause-only_certificate
returns-in_err-keyword-clause-only_certificate c =
    let p = err_from_is_err_and c.from_residual-in_err-keyword.result c.from_residual-in_err-keyword.ensures.1 in
    rw (p.1, p.2) (no_certificate c.args.bytes.now c.in_err-keyword.field-0.0 (λ b h. c.in_err-keyword.ensures.fault b (ap Err h)))

pub returns-in_err-keyword-clause-only_fault : goal.returns-in_err-keyword-clause-only_fault
returns-in_err-keyword-clause-only_fault c =
    let p = err_from_is_err_and c.from_residual-in_err-keyword.result c.from_residual-in_err-keyword.ensures.1 in
    rw (p.1, p.2) (that_fault c.args.bytes.now c.in_err-keyword.field-0.0 (λ b h. c.in_err-keyword.ensures.fault b (ap Err h)))

pub returns-in_err-end-clause-fault : goal.returns-in_err-end-clause-fault
returns-in_err-end-clause-fault c =
    let p = err_from_is_err_and c.from_residual-in_err-end.result c.from_residual-in_err-end.ensures.1 in
    rw (p.1, p.2) (fault_first c.args.bytes.now c.in_err-end.field-0.0 (λ b h. c.in_err-end.ensures.fault b (ap Err h)))

pub returns-in_err-end-clause-only_certificate : goal.returns-in_err-end-clause-only_certificate
returns-in_err-end-clause-only_certificate c =
    let p = err_from_is_err_and c.from_residual-in_err-end.result c.from_residual-in_err-end.ensures.1 in
    rw (p.1, p.2) (no_certificate c.args.bytes.now c.in_err-end.field-0.0 (λ b h. c.in_err-end.ensures.fault b (ap Err h)))

pub returns-in_err-end-clause-only_fault : goal.returns-in_err-end-clause-only_fault
returns-in_err-end-clause-only_fault c =
    let p = err_from_is_err_and c.from_residual-in_err-end.result c.from_residual-in_err-end.ensures.1 in
    rw (p.1, p.2) (that_fault c.args.bytes.now c.in_err-end.field-0.0 (λ b h. c.in_err-end.ensures.fault b (ap Err h)))

pub returns-in_err-log-clause-fault : goal.returns-in_err-log-clause-fault
returns-in_err-log-clause-fault c =
    let p = err_from_is_err_and c.from_residual-in_err-log.result c.from_residual-in_err-log.ensures.1 in
    rw (p.1, p.2) (fault_first c.args.bytes.now c.in_err-log.field-0.0 (λ b h. c.in_err-log.ensures.fault b (ap Err h)))

pub returns-in_err-log-clause-only_certificate : goal.returns-in_err-log-clause-only_certificate
returns-in_err-log-clause-only_certificate c =
    let p = err_from_is_err_and c.from_residual-in_err-log.result c.from_residual-in_err-log.ensures.1 in
    rw (p.1, p.2) (no_certificate c.args.bytes.now c.in_err-log.field-0.0 (λ b h. c.in_err-log.ensures.fault b (ap Err h)))

pub returns-in_err-log-clause-only_fault : goal.returns-in_err-log-clause-only_fault
returns-in_err-log-clause-only_fault c =
    let p = err_from_is_err_and c.from_residual-in_err-log.result c.from_residual-in_err-log.ensures.1 in
    rw (p.1, p.2) (that_fault c.args.bytes.now c.in_err-log.field-0.0 (λ b h. c.in_err-log.ensures.fault b (ap Err h)))

pub returns-clause-certificate : goal.returns-clause-certificate
returns-clause-certificate c =
    let cnf = c.read_set.new.cnf in
    certificate_found c.args.bytes.now (whole_of cnf.variables cnf.clauses c.in_ok-log.log) c.in_ok-log.ensures.found

pub returns-clause-only_certificate : goal.returns-clause-only_certificate
returns-clause-only_certificate c =
    let cnf = c.read_set.new.cnf in
    same_certificate c.args.bytes.now (whole_of cnf.variables cnf.clauses c.in_ok-log.log) c.in_ok-log.ensures.found

pub returns-clause-only_fault : goal.returns-clause-only_fault
returns-clause-only_fault c = λ b f.
    let cnf = c.read_set.new.cnf in
    absurd (no_fault c.args.bytes.now (whole_of cnf.variables cnf.clauses c.in_ok-log.log) c.in_ok-log.ensures.found b f)
