use Rattle.std.proofs.Common.{refl, []}
use Rattle.std.specs.Prelude.{codes}
use Rattle.std.proofs.lemmas.Result.{err_from_is_err_and}
use Rattle.civl_proofs.specs.inner.Reading.{Keyword}
use Rattle.civl_proofs.proofs.reading.keyword_end.Goals as goal

pub returns-in_err-middle-clause-fault : goal.returns-in_err-middle-clause-fault
returns-in_err-middle-clause-fault c =
    let cnf = c.args.cnf.now in
    let p = err_from_is_err_and c.from_residual.result c.from_residual.ensures.1 in
    rw (p.1, p.2) (c.in_err-middle.ensures.fault (Keyword cnf.variables cnf.clauses (codes "og")) (Keyword cnf.variables cnf.clauses (codes "g")) (λ byte. refl) refl c.requires)

pub returns-in_err-last-clause-fault : goal.returns-in_err-last-clause-fault
returns-in_err-last-clause-fault c =
    let cnf = c.args.cnf.now in
    let one = c.in_ok-middle.ensures.found (Keyword cnf.variables cnf.clauses (codes "og")) (Keyword cnf.variables cnf.clauses (codes "g")) (λ byte. refl) refl c.requires in
    let p = err_from_is_err_and c.from_residual-in_err-last.result c.from_residual-in_err-last.ensures.1 in
    rw (p.1, p.2) (c.in_err-last.ensures.fault (Keyword cnf.variables cnf.clauses (codes "g")) (Keyword cnf.variables cnf.clauses []) (λ byte. refl) refl one)

pub returns-clause-found : goal.returns-clause-found
returns-clause-found c =
    let cnf = c.args.cnf.now in
    let one = c.in_ok-middle.ensures.found (Keyword cnf.variables cnf.clauses (codes "og")) (Keyword cnf.variables cnf.clauses (codes "g")) (λ byte. refl) refl c.requires in
    c.in_ok-last.ensures.found (Keyword cnf.variables cnf.clauses (codes "g")) (Keyword cnf.variables cnf.clauses []) (λ byte. refl) refl one
