use Rattle.std.proofs.Common.{refl}
use Rattle.std.specs.Prelude.{codes, None}
use Rattle.std.proofs.lemmas.Result.{err_from_is_err_and}
use Rattle.civl_proofs.specs.inner.Reading.{Title, Variables}
use Rattle.civl_proofs.proofs.heading.title_end.Goals as goal

pub returns-in_err-first-clause-fault : goal.returns-in_err-first-clause-fault
returns-in_err-first-clause-fault c =
    let p = err_from_is_err_and c.from_residual.result c.from_residual.ensures.1 in
    rw (p.1, p.2) (c.in_err-first.ensures.fault (Title (codes " cnf ")) (Title (codes "cnf ")) (λ byte. refl) refl c.requires)

pub returns-in_err-second-clause-fault : goal.returns-in_err-second-clause-fault
returns-in_err-second-clause-fault c =
    let one = c.in_ok-first.ensures.found (Title (codes " cnf ")) (Title (codes "cnf ")) (λ byte. refl) refl c.requires in
    let p = err_from_is_err_and c.from_residual-in_err-second.result c.from_residual-in_err-second.ensures.1 in
    rw (p.1, p.2) (c.in_err-second.ensures.fault (Title (codes "cnf ")) (Title (codes "nf ")) (λ byte. refl) refl one)

pub returns-in_err-third-clause-fault : goal.returns-in_err-third-clause-fault
returns-in_err-third-clause-fault c =
    let one = c.in_ok-first.ensures.found (Title (codes " cnf ")) (Title (codes "cnf ")) (λ byte. refl) refl c.requires in
    let two = c.in_ok-second.ensures.found (Title (codes "cnf ")) (Title (codes "nf ")) (λ byte. refl) refl one in
    let p = err_from_is_err_and c.from_residual-in_err-third.result c.from_residual-in_err-third.ensures.1 in
    rw (p.1, p.2) (c.in_err-third.ensures.fault (Title (codes "nf ")) (Title (codes "f ")) (λ byte. refl) refl two)

pub returns-in_err-fourth-clause-fault : goal.returns-in_err-fourth-clause-fault
returns-in_err-fourth-clause-fault c =
    let one = c.in_ok-first.ensures.found (Title (codes " cnf ")) (Title (codes "cnf ")) (λ byte. refl) refl c.requires in
    let two = c.in_ok-second.ensures.found (Title (codes "cnf ")) (Title (codes "nf ")) (λ byte. refl) refl one in
    let three = c.in_ok-third.ensures.found (Title (codes "nf ")) (Title (codes "f ")) (λ byte. refl) refl two in
    let p = err_from_is_err_and c.from_residual-in_err-fourth.result c.from_residual-in_err-fourth.ensures.1 in
    rw (p.1, p.2) (c.in_err-fourth.ensures.fault (Title (codes "f ")) (Title (codes " ")) (λ byte. refl) refl three)

pub returns-in_err-last-clause-fault : goal.returns-in_err-last-clause-fault
returns-in_err-last-clause-fault c =
    let one = c.in_ok-first.ensures.found (Title (codes " cnf ")) (Title (codes "cnf ")) (λ byte. refl) refl c.requires in
    let two = c.in_ok-second.ensures.found (Title (codes "cnf ")) (Title (codes "nf ")) (λ byte. refl) refl one in
    let three = c.in_ok-third.ensures.found (Title (codes "nf ")) (Title (codes "f ")) (λ byte. refl) refl two in
    let four = c.in_ok-fourth.ensures.found (Title (codes "f ")) (Title (codes " ")) (λ byte. refl) refl three in
    let p = err_from_is_err_and c.from_residual-in_err-last.result c.from_residual-in_err-last.ensures.1 in
    rw (p.1, p.2) (c.in_err-last.ensures.fault (Title (codes " ")) (Variables None) (λ byte. refl) refl four)

pub returns-clause-found : goal.returns-clause-found
returns-clause-found c =
    let one = c.in_ok-first.ensures.found (Title (codes " cnf ")) (Title (codes "cnf ")) (λ byte. refl) refl c.requires in
    let two = c.in_ok-second.ensures.found (Title (codes "cnf ")) (Title (codes "nf ")) (λ byte. refl) refl one in
    let three = c.in_ok-third.ensures.found (Title (codes "nf ")) (Title (codes "f ")) (λ byte. refl) refl two in
    let four = c.in_ok-fourth.ensures.found (Title (codes "f ")) (Title (codes " ")) (λ byte. refl) refl three in
    c.in_ok-last.ensures.found (Title (codes " ")) (Variables None) (λ byte. refl) refl four
