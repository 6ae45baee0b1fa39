use Rattle.std.proofs.Common.{arith}
use Rattle.civl_tree.specs.declared.expr.Sort.TheVariants.{Bool as Truth}
use Rattle.civl_terms.proofs.Growing.{grows_trans}
use Rattle.civl_states.proofs.formula_parts.Saying.{sort_stays}
use Rattle.civl_states.proofs.formula_parts.Listing.{sorts_stay}
use Rattle.civl_states.proofs.Runs.{ready_stays, inputs_of}
use Rattle.civl_movers.proofs.Runs.{have_met}
use Rattle.civl_movers.proofs.meeting.meet.Goals as goal

pub gate_at-requires-clause-globals : goal.gate_at-requires-clause-globals
gate_at-requires-clause-globals c = sorts_stay _ _ _ _ c.in_ok-first.ensures.grows c.requires.globals

pub gate_at-requires-clause-inputs : goal.gate_at-requires-clause-inputs
gate_at-requires-clause-inputs c = inputs_of _ _ _ (ready_stays _ _ _ _ c.in_ok-first.ensures.grows c.requires.y)

pub gate_at-requires-2-clause-globals : goal.gate_at-requires-2-clause-globals
gate_at-requires-2-clause-globals c = sorts_stay _ _ _ _ c.in_ok-before.ensures.grows c.in_ok-first.ensures.store

pub gate_at-requires-2-clause-inputs : goal.gate_at-requires-2-clause-inputs
gate_at-requires-2-clause-inputs c = inputs_of _ _ _ (ready_stays _ _ _ _ (grows_trans _ _ _ c.in_ok-first.ensures.grows c.in_ok-before.ensures.grows) c.requires.y)

pub returns-clause-met : goal.returns-clause-met
returns-clause-met c =
    have_met _ _ _ _ c.args.program.now c.args.globals.now c.args.x.now c.args.y.now _ c.in_ok-first.ensures.grows c.in_ok-before.ensures.grows c.in_ok-later.ensures.grows
    c.in_ok-first.ensures.runs c.in_ok-before.ensures.gate c.in_ok-later.ensures.gate

pub returns-clause-gate : goal.returns-clause-gate
returns-clause-gate c = sort_stays _ _ _ Truth (grows_trans _ _ _ c.in_ok-before.ensures.grows c.in_ok-later.ensures.grows) c.in_ok-first.ensures.gate

pub returns-clause-guard : goal.returns-clause-guard
returns-clause-guard c = sort_stays _ _ _ Truth (grows_trans _ _ _ c.in_ok-before.ensures.grows c.in_ok-later.ensures.grows) c.in_ok-first.ensures.guard

pub returns-clause-before : goal.returns-clause-before
returns-clause-before c = sort_stays _ _ _ Truth c.in_ok-later.ensures.grows c.in_ok-before.ensures.sorted

pub returns-clause-weighs : goal.returns-clause-weighs
returns-clause-weighs c = λ a b p q. omega (arith, c.in_ok-first.ensures.weighs a p, c.in_ok-before.ensures.weighs b q, c.in_ok-later.ensures.weighs b q)

pub returns-clause-grows : goal.returns-clause-grows
returns-clause-grows c = grows_trans _ _ _ c.in_ok-first.ensures.grows (grows_trans _ _ _ c.in_ok-before.ensures.grows c.in_ok-later.ensures.grows)

pub returns-in_err-later-clause-grows : goal.returns-in_err-later-clause-grows
returns-in_err-later-clause-grows c = grows_trans _ _ _ c.in_ok-first.ensures.grows (grows_trans _ _ _ c.in_ok-before.ensures.grows c.in_err-later.ensures.grows)

pub returns-in_err-before-clause-grows : goal.returns-in_err-before-clause-grows
returns-in_err-before-clause-grows c = grows_trans _ _ _ c.in_ok-first.ensures.grows c.in_err-before.ensures.grows
