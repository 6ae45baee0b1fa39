use Rattle.std.proofs.Common.{◌∙◌, ap₂, subst, arith, List, ℕ}
use Rattle.civl_terms.proofs.Growing.{grows_trans}
use Rattle.civl_actions.proofs.Staying.{are_stay}
use Rattle.civl_states.proofs.formula_parts.Listing.{alike_stay}
use Rattle.civl_moves.specs.Branches.{KeepsSame, differing}
use Rattle.civl_moves.proofs.States.{bool_stays}
use Rattle.civl_moves.proofs.Picking.{alike_of, picked_of, picked_since, picked_stays, differ_stays}
use Rattle.civl_moves.proofs.branches.picked_state.Goals as goal

pub picked_all-requires-clause-alike : goal.picked_all-requires-clause-alike
picked_all-requires-clause-alike c = alike_of c.args.terms.now _ _ _ _ c.as_slice.ensures c.as_slice-2.ensures c.requires.globals

pub picked_all-requires-2-clause-test : goal.picked_all-requires-2-clause-test
picked_all-requires-2-clause-test c = bool_stays c.args.terms.now c.picked_all.new.terms c.args.test c.in_ok-globals.ensures.grows c.requires.test

pub picked_all-requires-2-clause-alike : goal.picked_all-requires-2-clause-alike
picked_all-requires-2-clause-alike c = alike_of c.picked_all.new.terms _ _ _ _ c.as_slice-3.ensures c.as_slice-4.ensures (alike_stay c.args.terms.now c.picked_all.new.terms _ _ c.in_ok-globals.ensures.grows c.requires.locals)

pub returns-in_err-locals-clause-grows : goal.returns-in_err-locals-clause-grows
returns-in_err-locals-clause-grows c = grows_trans _ _ _ c.in_ok-globals.ensures.grows c.in_err-locals.ensures.grows

pub returns-clause-grows : goal.returns-clause-grows
returns-clause-grows c = grows_trans _ _ _ c.in_ok-globals.ensures.grows c.in_ok-locals.ensures.grows

pub returns-clause-globals : goal.returns-clause-globals
returns-clause-globals c = λ ss hx hy.
    let o = c.args.terms.now in
    let m = c.picked_all.new.terms in
    let e = c.args.ended.now in
    let s = c.args.sweep.now in
    picked_stays o m c.picked_all-2.new.terms c.args.test ss e.globals s.globals c.in_ok-globals.globals c.in_ok-locals.ensures.grows
    (picked_of o m c.args.test e.globals s.globals _ _ c.in_ok-globals.globals c.as_slice.ensures c.as_slice-2.ensures c.in_ok-globals.ensures.picked ss hx hy)

pub returns-clause-locals : goal.returns-clause-locals
returns-clause-locals c = λ ss hx hy.
    let o = c.args.terms.now in
    let m = c.picked_all.new.terms in
    let n = c.picked_all-2.new.terms in
    let e = c.args.ended.now in
    let s = c.args.sweep.now in
    let g = c.in_ok-globals.ensures.grows in
    picked_since o m n c.args.test ss e.locals s.locals c.in_ok-locals.locals g c.requires.test hx hy
    (picked_of m n c.args.test e.locals s.locals _ _ c.in_ok-locals.locals c.as_slice-3.ensures c.as_slice-4.ensures c.in_ok-locals.ensures.picked ss (are_stay o m e.locals ss hx g) (are_stay o m s.locals ss hy g))

pub returns-clause-weighs : goal.returns-clause-weighs
returns-clause-weighs c =
    let o = c.args.terms.now in
    let m = c.picked_all.new.terms in
    let e = c.args.ended.now in
    let s = c.args.sweep.now in
    let first = ap₂ (λ (us vs : List ℕ). differing o us vs) c.as_slice.ensures c.as_slice-2.ensures in
    let second = ap₂ (λ (us vs : List ℕ). differing m us vs) c.as_slice-3.ensures c.as_slice-4.ensures ∙ differ_stays o m e.locals s.locals c.requires.locals.sorts c.in_ok-globals.ensures.grows c.requires.locals.first in
    omega (arith, c.in_ok-globals.ensures.weighs, c.in_ok-locals.ensures.weighs, first, second)

pub returns-clause-same_globals : goal.returns-clause-same_globals
returns-clause-same_globals c =
    subst (λ (ys : List ℕ). KeepsSame c.args.ended.now.globals ys c.in_ok-globals.globals) c.as_slice-2.ensures
    (subst (λ (xs : List ℕ). KeepsSame xs c.as_slice-2.result.now c.in_ok-globals.globals) c.as_slice.ensures c.in_ok-globals.ensures.same)

pub returns-clause-same_locals : goal.returns-clause-same_locals
returns-clause-same_locals c =
    subst (λ (ys : List ℕ). KeepsSame c.args.ended.now.locals ys c.in_ok-locals.locals) c.as_slice-4.ensures
    (subst (λ (xs : List ℕ). KeepsSame xs c.as_slice-4.result.now c.in_ok-locals.locals) c.as_slice-3.ensures c.in_ok-locals.ensures.same)
