use Rattle.std.proofs.Common.{rules, ◌≡◌, ◌∙◌, sym, subst}
use Rattle.civl_portfolio.specs.Attempt.{Stands}
use Rattle.civl_provers.specs.Probe.{first_true}
use Rattle.civl_provers.proofs.Tries.{first_is, none_is, never_unsat, never_memory, first_stands}
use Rattle.civl_provers.proofs.probe.ProbeProver.attempt.Goals as goal

pub returns-in-Ok-clause-memory : goal.returns-in-Ok-clause-memory
returns-in-Ok-clause-memory c e =
    let is : c.in-Ok.attempt ≡ first_true c.args.cnf.now c.args.self.now.tries = search rules in
    absurd (never_memory c.args.cnf.now c.args.self.now.tries (sym is ∙ e))

pub returns-in-Ok-clause-honest : goal.returns-in-Ok-clause-honest
returns-in-Ok-clause-honest c =
    let is : c.in-Ok.attempt ≡ first_true c.args.cnf.now c.args.self.now.tries = search rules in
    subst (Stands c.args.cnf.now) (sym is) (first_stands c.args.cnf.now c.args.self.now.tries)

pub returns-in-Ok-clause-sat : goal.returns-in-Ok-clause-sat
returns-in-Ok-clause-sat c bits e =
    let is : c.in-Ok.attempt ≡ first_true c.args.cnf.now c.args.self.now.tries = search rules in
    first_is c.args.cnf.now c.args.self.now.tries bits (sym is ∙ e)

pub returns-in-Ok-clause-gave_up : goal.returns-in-Ok-clause-gave_up
returns-in-Ok-clause-gave_up c e =
    let is : c.in-Ok.attempt ≡ first_true c.args.cnf.now c.args.self.now.tries = search rules in
    none_is c.args.cnf.now c.args.self.now.tries (sym is ∙ e)

pub returns-in-Ok-clause-unsat : goal.returns-in-Ok-clause-unsat
returns-in-Ok-clause-unsat c log e =
    let is : c.in-Ok.attempt ≡ first_true c.args.cnf.now c.args.self.now.tries = search rules in
    never_unsat c.args.cnf.now c.args.self.now.tries log (sym is ∙ e)
