use Rattle.std.proofs.Common.{◌∙◌, refl, subst, List, ℕ}
use Rattle.civl_tree.specs.declared.expr.Sort.TheVariants.{Bool as Truth}
use Rattle.civl_terms.proofs.Growing.{grows_trans}
use Rattle.civl_states.proofs.formula_parts.Saying.{sort_stays, test_stays}
use Rattle.civl_moves.specs.Expressions.{IsBodyTerm}
use Rattle.civl_moves.proofs.branches.part.Goals as goal

pub both-requires-clause-a : goal.both-requires-clause-a
both-requires-clause-a c = sort_stays c.args.terms.now c.body_term.new.terms c.args.sweep.now.live Truth c.in_ok-test.ensures.grows c.requires.can.live.sorted

pub both-requires-clause-b : goal.both-requires-clause-b
both-requires-clause-b c = c.in_ok-test.ensures.term.sorted ∙ c.requires.suits.sorted Truth refl

pub without-requires-clause-a : goal.without-requires-clause-a
without-requires-clause-a c = sort_stays c.args.terms.now c.both.new.terms c.args.sweep.now.live Truth (grows_trans _ _ _ c.in_ok-test.ensures.grows c.in_ok-first.ensures.grows) c.requires.can.live.sorted

pub without-requires-clause-b : goal.without-requires-clause-b
without-requires-clause-b c = sort_stays c.body_term.new.terms c.both.new.terms c.in_ok-test.test Truth c.in_ok-first.ensures.grows (c.in_ok-test.ensures.term.sorted ∙ c.requires.suits.sorted Truth refl)

pub returns-in_err-first-clause-grows : goal.returns-in_err-first-clause-grows
returns-in_err-first-clause-grows c = grows_trans _ _ _ c.in_ok-test.ensures.grows c.in_err-first.ensures.grows

pub returns-in_err-second-clause-grows : goal.returns-in_err-second-clause-grows
returns-in_err-second-clause-grows c = grows_trans _ _ _ c.in_ok-test.ensures.grows (grows_trans _ _ _ c.in_ok-first.ensures.grows c.in_err-second.ensures.grows)

pub returns-clause-grows : goal.returns-clause-grows
returns-clause-grows c = grows_trans _ _ _ c.in_ok-test.ensures.grows (grows_trans _ _ _ c.in_ok-first.ensures.grows c.in_ok-second.ensures.grows)

pub returns-clause-test : goal.returns-clause-test
returns-clause-test c =
    let o = c.args.terms.now in
    let m = c.body_term.new.terms in
    let term = subst (λ (is : List ℕ). IsBodyTerm o m c.args.program.now c.args.proc.now is c.args.condition.now c.in_ok-test.test) c.as_slice.ensures c.in_ok-test.ensures.term in
    test_stays m c.without.new.terms c.in_ok-test.test _ (grows_trans _ _ _ c.in_ok-first.ensures.grows c.in_ok-second.ensures.grows) (term.test (c.requires.suits.sorted Truth refl))

pub returns-clause-first : goal.returns-clause-first
returns-clause-first c =
    let o = c.args.terms.now in
    let m = c.body_term.new.terms in
    let term = subst (λ (is : List ℕ). IsBodyTerm o m c.args.program.now c.args.proc.now is c.args.condition.now c.in_ok-test.test) c.as_slice.ensures c.in_ok-test.ensures.term in
    test_stays c.both.new.terms c.without.new.terms c.in_ok-first.first _ c.in_ok-second.ensures.grows
    (c.in_ok-first.ensures.test _ _ (test_stays o m c.args.sweep.now.live _ c.in_ok-test.ensures.grows c.requires.can.live) (term.test (c.requires.suits.sorted Truth refl)))

pub returns-clause-second : goal.returns-clause-second
returns-clause-second c =
    let o = c.args.terms.now in
    let m = c.body_term.new.terms in
    let n = c.both.new.terms in
    let term = subst (λ (is : List ℕ). IsBodyTerm o m c.args.program.now c.args.proc.now is c.args.condition.now c.in_ok-test.test) c.as_slice.ensures c.in_ok-test.ensures.term in
    c.in_ok-second.ensures.test _ _ (test_stays o n c.args.sweep.now.live _ (grows_trans _ _ _ c.in_ok-test.ensures.grows c.in_ok-first.ensures.grows) c.requires.can.live)
    (test_stays m n c.in_ok-test.test _ c.in_ok-first.ensures.grows (term.test (c.requires.suits.sorted Truth refl)))
