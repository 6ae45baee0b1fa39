use Rattle.std.proofs.Common.{◌≡◌, sym, ◌∙◌, arith}
use Rattle.civl_rup.specs.declared.answer.Replay.TheVariants.{Refutes, NotRup, NoEmpty}
use Rattle.civl_portfolio.proofs.asking.search.Goals as goal

pub unreachable-requires : goal.unreachable-requires
unreachable-requires c =
    let refutes = (c.in_ok-bits.ensures.unsat c.in-Unsat.log c.in-Unsat.is).refutes in
    let e : NotRup c.in-NotRup.field-0 ≡ Refutes = sym c.in-NotRup.is ∙ c.in_ok-replay-in-Unsat.ensures.refutes.1 refutes in
    absurd cc

pub unreachable-requires-in-NoEmpty : goal.unreachable-requires-in-NoEmpty
unreachable-requires-in-NoEmpty c =
    let refutes = (c.in_ok-bits.ensures.unsat c.in-Unsat.log c.in-Unsat.is).refutes in
    let e : NoEmpty ≡ Refutes = sym c.in-NoEmpty.is ∙ c.in_ok-replay-in-Unsat.ensures.refutes.1 refutes in
    absurd cc

pub returns-in-Sat : goal.returns-in-Sat
returns-in-Sat c =
    let model = c.in_ok-bits.ensures.sat c.in-Sat.bits c.in-Sat.is in
    let size = model.size in
    record { enough = omega arith; truth = model.truth }

pub returns-in-Spent : goal.returns-in-Spent
returns-in-Spent c = (c.in_ok-bits.ensures.spent c.in-Spent.log c.in-Spent.is).spends
