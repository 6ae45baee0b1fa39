use Rattle.std.proofs.Common.{◌≡◌, ◌∙◌, ◌≤◌, Bool, true, false, sym, ap, refl, subst, arith, Option, Some}
use Rattle.std.specs.Prelude.{IsSome, if◌then◌else◌, nat_eq}
use Rattle.civl_tree.specs.declared.expr.Sort.{Sort}
use Rattle.civl_tree.specs.declared.expr.Sort.TheVariants.{Bool as Truth}
use Rattle.civl_firing.specs.values.Weights.{bits_in}
use Rattle.civl_terms.specs.Graphs.{sort_at}
use Rattle.civl_terms.proofs.Growing.{grows_trans}
use Rattle.civl_states.proofs.formula_parts.Saying.{sort_stays, test_stays}
use Rattle.civl_moves.proofs.Picking.{as_said, picked_test, picked_stays, join_moves}
use Rattle.civl_moves.proofs.branches.join.Goals as goal

pub picked-requires-clause-test : goal.picked-requires-clause-test
picked-requires-clause-test c = sort_stays c.args.terms.now c.picked_state.new.terms c.args.test Truth c.in_ok-state.ensures.grows c.requires.test.sorted

pub picked-requires-clause-sort : goal.picked-requires-clause-sort
picked-requires-clause-sort c =
    subst (λ (o : Option Sort). IsSome o) (sym (sort_stays c.args.terms.now c.picked_state.new.terms c.args.ended.now.done Truth c.in_ok-state.ensures.grows c.requires.ended_done)) refl

pub picked-requires-clause-alike : goal.picked-requires-clause-alike
picked-requires-clause-alike c =
    sort_stays c.args.terms.now c.picked_state.new.terms c.args.sweep.now.done Truth c.in_ok-state.ensures.grows c.requires.done
    ∙ sym (sort_stays c.args.terms.now c.picked_state.new.terms c.args.ended.now.done Truth c.in_ok-state.ensures.grows c.requires.ended_done)

pub returns-in_err-done-clause-grows : goal.returns-in_err-done-clause-grows
returns-in_err-done-clause-grows c = grows_trans _ _ _ c.in_ok-state.ensures.grows c.in_err-done.ensures.grows

pub either-requires-clause-a : goal.either-requires-clause-a
either-requires-clause-a c = sort_stays c.args.terms.now c.picked.new.terms c.args.ended.now.live Truth (grows_trans _ _ _ c.in_ok-state.ensures.grows c.in_ok-done.ensures.grows) c.requires.ended_live

pub either-requires-clause-b : goal.either-requires-clause-b
either-requires-clause-b c = sort_stays c.args.terms.now c.picked.new.terms c.args.sweep.now.live Truth (grows_trans _ _ _ c.in_ok-state.ensures.grows c.in_ok-done.ensures.grows) c.requires.live

pub returns-in_err-live-clause-grows : goal.returns-in_err-live-clause-grows
returns-in_err-live-clause-grows c = grows_trans _ _ _ c.in_ok-state.ensures.grows (grows_trans _ _ _ c.in_ok-done.ensures.grows c.in_err-live.ensures.grows)

pub returns-clause-grows : goal.returns-clause-grows
returns-clause-grows c = grows_trans _ _ _ c.in_ok-state.ensures.grows (grows_trans _ _ _ c.in_ok-done.ensures.grows c.in_ok-live.ensures.grows)

one_at_most : (b : Bool) (o : Option Sort) → o ≡ Some Truth → (if b then 0 else bits_in o) ≤ 1
one_at_most true o e = omega arith
one_at_most false o e = let w : bits_in o ≡ 1 = ap bits_in e in omega (arith, w)

pub returns-clause-weighs : goal.returns-clause-weighs
returns-clause-weighs c =
    let m = c.picked_state.new.terms in
    let e = c.args.ended.now.done in
    omega (arith, c.in_ok-state.ensures.weighs, c.in_ok-done.ensures.weighs, c.in_ok-live.ensures.weighs, one_at_most (nat_eq e c.args.sweep.now.done) (sort_at m e) (sort_stays c.args.terms.now m e Truth c.in_ok-state.ensures.grows c.requires.ended_done))

pub returns-clause-moves : goal.returns-clause-moves
returns-clause-moves c = λ p q can end.
    let o = c.args.terms.now in
    let m = c.picked_state.new.terms in
    let n = c.picked.new.terms in
    let k = c.either.new.terms in
    let s = c.args.sweep.now in
    let e = c.args.ended.now in
    let g = c.in_ok-state.ensures.grows in
    let h = c.in_ok-done.ensures.grows in
    let j = c.in_ok-live.ensures.grows in
    let gh = grows_trans o m n g h in
    let hj = grows_trans m n k h j in
    let done = picked_test n c.in_ok-done.done _ _ _
    (c.in_ok-done.ensures.said Truth _ _ _ (test_stays o m c.args.test _ g c.requires.test) (as_said m e.done _ (test_stays o m e.done _ g end.done)) (as_said m s.done _ (test_stays o m s.done _ g can.done))) in
    join_moves o k p q s e c.args.test c.in_ok-live.live c.in_ok-done.done c.in_ok-state.state.globals c.in_ok-state.state.locals _ (grows_trans o m k g hj) can end
    (c.in_ok-live.ensures.test _ _ (test_stays o n e.live _ gh end.live) (test_stays o n s.live _ gh can.live))
    (test_stays n k c.in_ok-done.done _ j done)
    (picked_stays o m k c.args.test _ e.globals s.globals c.in_ok-state.state.globals hj (c.in_ok-state.ensures.globals _ end.globals can.globals))
    (picked_stays o m k c.args.test _ e.locals s.locals c.in_ok-state.state.locals hj (c.in_ok-state.ensures.locals _ end.locals can.locals))
    c.one_of-sweep.ensures
