use Rattle.std.proofs.Common.{◌≡◌, ◌∙◌, ap, ap₂, ◌+◌, [], ◌∷◌, length, take, sym, refl, subst, arith, List, ℕ, Option}
use Rattle.std.specs.Prelude.{IsSome}
use Rattle.std.proofs.lemmas.List.{take_all, length-append}
use Rattle.civl_tree.specs.declared.expr.Sort.{Sort}
use Rattle.civl_tree.specs.declared.expr.Sort.TheVariants.{Bool as Truth}
use Rattle.civl_terms.proofs.Growing.{grows_trans}
use Rattle.civl_actions.proofs.Nodes.{are_long}
use Rattle.civl_states.proofs.formula_parts.Saying.{sort_stays}
use Rattle.civl_states.proofs.formula_parts.Listing.{alike_at, alike_long, alike_stay}
use Rattle.civl_moves.specs.Branches.{ArePicked, KeepsSame, differing}
use Rattle.civl_moves.proofs.Picking.{picked_step, differ_next}
use Rattle.civl_moves.proofs.Leaving.{same_step}
use Rattle.civl_moves.proofs.branches.picked_all.Goals as goal

pub picked-requires-clause-test : goal.picked-requires-clause-test
picked-requires-clause-test c = sort_stays c.args.terms.now c.loop-at.terms c.args.test Truth c.loop-at.invariant.0 c.requires.test.sorted

pub picked-requires-clause-sort : goal.picked-requires-clause-sort
picked-requires-clause-sort c =
    let a = alike_stay c.args.terms.now c.loop-at.terms c.args.xs.now c.args.ys.now c.loop-at.invariant.0 c.requires.alike in
    let s = alike_at c.loop-at.terms c.args.xs.now c.args.ys.now a.sorts c.loop-at.at a.first a.second (omega arith) in
    subst (λ (o : Option Sort). IsSome o) (sym s.2) refl

pub picked-requires-clause-alike : goal.picked-requires-clause-alike
picked-requires-clause-alike c =
    let a = alike_stay c.args.terms.now c.loop-at.terms c.args.xs.now c.args.ys.now c.loop-at.invariant.0 c.requires.alike in
    let s = alike_at c.loop-at.terms c.args.xs.now c.args.ys.now a.sorts c.loop-at.at a.first a.second (omega arith) in
    s.3 ∙ sym s.2

pub returns-in_err-id-clause-grows : goal.returns-in_err-id-clause-grows
returns-in_err-id-clause-grows c = grows_trans _ _ _ c.loop-at.invariant.0 c.in_err-id.ensures.grows

pub returns-in_err-push-clause-grows : goal.returns-in_err-push-clause-grows
returns-in_err-push-clause-grows c = grows_trans _ _ _ c.loop-at.invariant.0 c.in_ok-id.ensures.grows

pub loop-at-preserved : goal.loop-at-preserved
loop-at-preserved c =
    let o = c.args.terms.now in
    let m = c.loop-at.terms in
    let n = c.picked.new.terms in
    let i = c.loop-at.at in
    let g = c.loop-at.invariant.0 in
    let r = c.requires.alike in (
      grows_trans _ _ _ g c.in_ok-id.ensures.grows,
      λ ss hx hy. picked_step o m n c.args.test ss c.args.xs.now c.args.ys.now c.loop-at.ids.items _ i c.in_ok-id.id g c.in_ok-id.ensures.grows c.requires.test hx hy (omega arith) (c.loop-at.invariant.1 ss hx hy) c.in_ok-id.ensures.said c.in_ok-push.ensures.items,
      omega (arith, c.loop-at.invariant.2, c.in_ok-id.ensures.weighs, differ_next o m c.args.xs.now c.args.ys.now r.sorts i g r.first r.second (omega arith)),
      ap (length {A = ℕ}) c.in_ok-push.ensures.items ∙ length-append c.loop-at.ids.items (c.in_ok-id.id ∷ []) ∙ ap (λ (k : ℕ). k + 1) c.loop-at.invariant.3,
      same_step c.args.xs.now c.args.ys.now c.loop-at.ids.items _ i c.in_ok-id.id (omega arith) (omega (arith, alike_long o c.args.xs.now c.args.ys.now r.sorts r.first r.second)) c.loop-at.invariant.3 c.in_ok-id.ensures.same c.loop-at.invariant.4 c.in_ok-push.ensures.items,
    )

pub returns-clause-picked : goal.returns-clause-picked
returns-clause-picked c = λ ss hx hy.
    let o = c.args.terms.now in
    let n = c.loop-at.terms in
    let i = c.loop-at.at in
    let xs = c.args.xs.now in
    let ys = c.args.ys.now in
    let long : length xs ≡ length ss = are_long o xs ss hx in
    let far : length ys ≡ length ss = are_long o ys ss hy in
    let h = c.loop-at.invariant.1 ss hx hy in
    let h1 = subst (λ (zs : List Sort). ArePicked o n c.args.test zs (take i xs) (take i ys) c.loop-at.ids.items) (take_all i ss (omega arith)) h in
    let h2 = subst (λ (zs : List ℕ). ArePicked o n c.args.test ss zs (take i ys) c.loop-at.ids.items) (take_all i xs (omega arith)) h1 in
    let h3 = subst (λ (zs : List ℕ). ArePicked o n c.args.test ss xs zs c.loop-at.ids.items) (take_all i ys (omega arith)) h2 in
    subst (λ (zs : List ℕ). ArePicked o n c.args.test ss xs ys zs) (sym c.from_vec.ensures) h3

pub returns-clause-weighs : goal.returns-clause-weighs
returns-clause-weighs c =
    let i = c.loop-at.at in
    let long = alike_long c.args.terms.now c.args.xs.now c.args.ys.now c.requires.alike.sorts c.requires.alike.first c.requires.alike.second in
    let e = ap₂ (λ (us vs : List ℕ). differing c.args.terms.now us vs) (take_all i c.args.xs.now (omega arith)) (take_all i c.args.ys.now (omega arith)) in
    omega (arith, c.loop-at.invariant.2, e)

pub returns-clause-same : goal.returns-clause-same
returns-clause-same c =
    let i = c.loop-at.at in
    let xs = c.args.xs.now in
    let ys = c.args.ys.now in
    let long = alike_long c.args.terms.now xs ys c.requires.alike.sorts c.requires.alike.first c.requires.alike.second in
    let h1 = subst (λ (zs : List ℕ). KeepsSame zs (take i ys) c.loop-at.ids.items) (take_all i xs (omega arith)) c.loop-at.invariant.4 in
    let h2 = subst (λ (zs : List ℕ). KeepsSame xs zs c.loop-at.ids.items) (take_all i ys (omega (arith, long))) h1 in
    subst (KeepsSame xs ys) (sym c.from_vec.ensures) h2
