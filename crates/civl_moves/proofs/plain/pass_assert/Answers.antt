use Rattle.std.proofs.Common.{refl, subst, List, ℕ}
use Rattle.civl_tree.specs.declared.expr.Sort.TheVariants.{Bool as Truth}
use Rattle.civl_terms.proofs.Growing.{grows_trans}
use Rattle.civl_states.proofs.formula_parts.Saying.{sort_stays, test_stays}
use Rattle.civl_moves.specs.States.{holds_at}
use Rattle.civl_moves.specs.Expressions.{IsBodyTerm}
use Rattle.civl_moves.proofs.Moving.{gate_moves}
use Rattle.civl_moves.proofs.plain.pass_assert.Goals as goal

pub gate-requires-clause-live : goal.gate-requires-clause-live
gate-requires-clause-live c = sort_stays c.args.terms.now c.body_term.new.terms c.args.sweep.now.live Truth c.in_ok-test.ensures.grows c.requires.can.live.sorted

pub gate-requires-clause-safe : goal.gate-requires-clause-safe
gate-requires-clause-safe c = sort_stays c.args.terms.now c.body_term.new.terms c.args.sweep.now.safe Truth c.in_ok-test.ensures.grows c.requires.can.safe.sorted

pub returns-in_err-gated-clause-grows : goal.returns-in_err-gated-clause-grows
returns-in_err-gated-clause-grows c = grows_trans _ _ _ c.in_ok-test.ensures.grows c.in_err-gated.ensures.grows

pub returns-clause-moves : goal.returns-clause-moves
returns-clause-moves c =
    let o = c.args.terms.now in
    let m = c.body_term.new.terms in
    let n = c.gate.new.terms in
    let s = c.args.sweep.now in
    let can = c.requires.can in
    let g = c.in_ok-test.ensures.grows in
    let term = subst (λ (is : List ℕ). IsBodyTerm o m c.args.program.now c.args.proc.now is c.args.fact.now c.in_ok-test.test) c.as_slice.ensures c.in_ok-test.ensures.term in
    let t = term.test (c.requires.suits.sorted Truth refl) in
    let live = test_stays o m s.live _ g can.live in
    gate_moves o n c.args.program.now c.args.proc.now s (grows_trans o m n g c.in_ok-gated.ensures.grows) can c.in_ok-gated.gated.live c.in_ok-gated.gated.safe (holds_at c.args.program.now c.args.proc.now c.args.fact.now)
    (c.in_ok-gated.ensures.live _ _ live t) (c.in_ok-gated.ensures.safe _ _ _ live (test_stays o m s.safe _ g can.safe) t)

pub returns-clause-grows : goal.returns-clause-grows
returns-clause-grows c = grows_trans _ _ _ c.in_ok-test.ensures.grows c.in_ok-gated.ensures.grows
