use Rattle.std.specs.Prelude.{true}
use Rattle.civl_terms.proofs.Growing.{grows_trans}
use Rattle.civl_states.proofs.formula_parts.Saying.{test_stays, constant_test}
use Rattle.civl_moves.proofs.Moving.{commit_moves}
use Rattle.civl_moves.proofs.plain.pass_commit.Goals as goal

pub returns-clause-moves : goal.returns-clause-moves
returns-clause-moves c = λ p q can.
    let o = c.args.terms.now in
    let m = c.still_once.new.terms in
    let n = c.constant.new.self in
    let s = c.args.sweep.now in
    commit_moves o n p q s (grows_trans o m n c.in_ok-once.ensures.grows c.in_ok-yes.ensures.grows) can c.in_ok-once.once c.in_ok-yes.yes
    (test_stays m n c.in_ok-once.once _ c.in_ok-yes.ensures.grows (c.in_ok-once.ensures.test _ _ _ can.once can.live can.done))
    (constant_test m n c.in_ok-yes.yes true c.in_ok-yes.ensures.built)

pub returns-clause-grows : goal.returns-clause-grows
returns-clause-grows c = grows_trans _ _ _ c.in_ok-once.ensures.grows c.in_ok-yes.ensures.grows
