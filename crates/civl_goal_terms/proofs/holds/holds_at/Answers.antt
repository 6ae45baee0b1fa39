use Rattle.std.specs.Prelude.{take}
use Rattle.std.specs.List.{list_all}
use Rattle.std.proofs.Common.{◌≡◌, ◌∙◌, ◌+◌, ◌++◌, ◌∷◌, [], ℕ, List, sym, ap, subst, arith}
use Rattle.std.proofs.lemmas.List.{take_more, take_all}
use Rattle.civl_tree.specs.declared.expr.Expr.{Expr}
use Rattle.civl_terms.proofs.Growing.{grows_trans}
use Rattle.civl_conditions.specs.Invariants.{holds_of_globals}
use Rattle.civl_states.specs.formula_parts.Said.{IsTest}
use Rattle.civl_states.proofs.formula_parts.Listing.{sorts_stay}
use Rattle.civl_states.specs.Stores.{AreGlobals, AreStore}
use Rattle.civl_states.proofs.Stepping.{HoldSo, hold_more}
use Rattle.civl_goal_terms.proofs.Holding.{hold_typed}
use Rattle.civl_goal_terms.proofs.holds.holds_at.Goals as goal

pub and_hold-requires-clause-typed : goal.and_hold-requires-clause-typed
and_hold-requires-clause-typed c =
    hold_typed c.args.program.now c.args.outline.now c.requires.outlined c.as_slice-hold-items.result.now c.loop-hold.hold-index c.hold-item.result c.as_slice-hold-items.ensures (omega arith) c.hold-item.is

pub and_hold-requires-clause-globals : goal.and_hold-requires-clause-globals
and_hold-requires-clause-globals c =
    subst (λ (ids : List ℕ). AreGlobals c.loop-hold.terms c.args.program.now ids) (sym c.as_slice.ensures) (sorts_stay _ _ _ _ c.loop-hold.invariant.0 c.requires.globals)

pub returns-in_err-all-2-clause-grows : goal.returns-in_err-all-2-clause-grows
returns-in_err-all-2-clause-grows c = grows_trans _ _ _ c.loop-hold.invariant.0 c.in_err-all-2.ensures.grows

pub loop-hold-preserved : goal.loop-hold-preserved
loop-hold-preserved c =
    let p = c.args.program.now in
    let o = c.args.terms.now in
    let gs = c.args.globals.now in
    let es = c.as_slice-hold-items.result.now in
    let k = c.loop-hold.hold-index in
    let e = c.hold-item.result in
    let more : take (k + 1) es ≡ take k es ++ e ∷ [] = take_more es k e (omega arith) ∙ ap (λ (d : Expr). take k es ++ d ∷ []) (sym c.hold-item.is) in
    subst (λ (ds : List Expr). HoldSo o p gs ds c.and_hold.new.terms c.in_ok-all-2.all) (sym more)
    (hold_more o c.loop-hold.terms c.and_hold.new.terms p gs (take k es) e c.loop-hold.all c.in_ok-all-2.all c.loop-hold.invariant c.in_ok-all-2.ensures.grows c.in_ok-all-2.ensures.sorted
    (λ f g t s. c.in_ok-all-2.ensures.test f g t (subst (λ (ids : List ℕ). AreStore c.loop-hold.terms p ids g) (sym c.as_slice.ensures) s)) c.in_ok-all-2.ensures.weighs)

pub returns-clause-tells : goal.returns-clause-tells
returns-clause-tells c = λ g s.
    let all = take_all c.loop-hold.hold-index c.as_slice-hold-items.result.now (omega arith) ∙ c.as_slice-hold-items.ensures in
    subst (λ (es : List Expr). IsTest c.loop-hold.terms c.loop-hold.all (λ env. list_all (holds_of_globals c.args.program.now (g env)) es)) all (c.loop-hold.invariant.2 g s)
