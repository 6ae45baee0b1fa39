use Rattle.std.proofs.Common.{arith}
use Rattle.civl_terms.proofs.Growing.{grows_trans}
use Rattle.civl_states.proofs.formula_parts.Listing.{sorts_stay}
use Rattle.civl_states.proofs.Runs.{ready_stays}
use Rattle.civl_movers.proofs.Runs.{tested_stays, have_run}
use Rattle.civl_movers.proofs.sequence.run_in_turn.Goals as goal

pub run-requires-2-clause-x : goal.run-requires-2-clause-x
run-requires-2-clause-x c = ready_stays _ _ _ _ c.in_ok-first.ensures.grows c.requires.y

pub returns-clause-ran : goal.returns-clause-ran
returns-clause-ran c =
    have_run _ _ _ c.args.program.now c.args.globals.now c.args.x.now c.args.y.now _ c.in_ok-first.ensures.grows c.in_ok-second.ensures.grows c.in_ok-first.ensures.runs c.in_ok-second.ensures.runs

pub returns-clause-first : goal.returns-clause-first
returns-clause-first c = tested_stays _ _ _ c.in_ok-second.ensures.grows (record { gate = c.in_ok-first.ensures.gate; guard = c.in_ok-first.ensures.guard })

pub returns-clause-second : goal.returns-clause-second
returns-clause-second c = record { gate = c.in_ok-second.ensures.gate; guard = c.in_ok-second.ensures.guard }

pub returns-clause-first_outs : goal.returns-clause-first_outs
returns-clause-first_outs c = λ a e. sorts_stay _ _ _ _ c.in_ok-second.ensures.grows (c.in_ok-first.ensures.outs a e)

pub returns-clause-weighs : goal.returns-clause-weighs
returns-clause-weighs c = λ a b p q. omega (arith, c.in_ok-first.ensures.weighs a p, c.in_ok-second.ensures.weighs b q)

pub returns-clause-grows : goal.returns-clause-grows
returns-clause-grows c = grows_trans _ _ _ c.in_ok-first.ensures.grows c.in_ok-second.ensures.grows

pub returns-in_err-second-clause-grows : goal.returns-in_err-second-clause-grows
returns-in_err-second-clause-grows c = grows_trans _ _ _ c.in_ok-first.ensures.grows c.in_err-second.ensures.grows
