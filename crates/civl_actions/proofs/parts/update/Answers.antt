use Rattle.std.proofs.Common.{◌≡◌, ◌∙◌, ap, sym, subst, arith, List, ℕ, ◌+◌}
use Rattle.std.specs.Prelude.{slice_get, slice_set, Some}
use Rattle.civl_tree.specs.rules.Scopes.{guard_scope}
use Rattle.civl_tree.specs.rules.Names.{global_names, param_names, targets_of}
use Rattle.civl_firing.specs.Truth.{place_of}
use Rattle.civl_terms.proofs.Growing.{grows_trans}
use Rattle.civl_actions.specs.Actions.{LeavesOthers}
use Rattle.civl_actions.specs.inner.Steps.{AreUpdated}
use Rattle.civl_actions.proofs.Staying.{fits_stay}
use Rattle.civl_actions.proofs.Rules.{kept, update_typed}
use Rattle.civl_actions.proofs.Listing.{item_at, updated_more}
use Rattle.civl_actions.proofs.Leaving.{leaves_set, target_there}
use Rattle.civl_actions.proofs.parts.update.Goals as goal

pub term-requires : goal.term-requires
term-requires c =
    let a = c.args.action.now in
    let k = kept c.args.program.now c.requires.rules c.requires.action.0 a c.requires.action.1 in
    let at : slice_get a.updates c.loop-one.one-index ≡ Some c.one-item.result = item_at a.updates c.as_slice-one-items.result.now c.loop-one.one-index c.one-item.result c.as_slice-one-items.ensures (omega arith) c.one-item.is in
    (guard_scope c.args.program.now a, fits_stay c.args.terms.now c.loop-one.terms c.args.scope.now (guard_scope c.args.program.now a) c.loop-one.invariant.1 c.requires.scope, update_typed c.args.program.now a k c.loop-one.one-index c.one-item.result at)

pub returns-in_err-id-clause-grows : goal.returns-in_err-id-clause-grows
returns-in_err-id-clause-grows c = grows_trans _ _ _ c.loop-one.invariant.1 c.in_err-id.ensures.grows

pub loop-one-preserved : goal.loop-one-preserved
loop-one-preserved c =
    let a = c.args.action.now in
    let p = c.args.program.now in
    let k = kept p c.requires.rules c.requires.action.0 a c.requires.action.1 in
    let i = c.loop-one.one-index in
    let u = c.one-item.result in
    let id = c.in_ok-id.id in
    let at : slice_get a.updates i ≡ Some u = item_at a.updates c.as_slice-one-items.result.now i u c.as_slice-one-items.ensures (omega arith) c.one-item.is in
    let gs : c.write.new.ids.items ≡ slice_set c.loop-one.globals.items (place_of (global_names p.globals) u.target) id =
    c.write.ensures ∙ ap (λ (j : ℕ). slice_set c.loop-one.globals.items j id) (c.place.ensures.place ∙ ap (λ ns. place_of ns u.target) (c.global_targets.ensures ∙ ap global_names c.as_slice.ensures)) in
    let os : c.write-in-loop-one.new.ids.items ≡ slice_set c.loop-one.outs.items (place_of (param_names a.outs) u.target) id =
    c.write-in-loop-one.ensures ∙ ap (λ (j : ℕ). slice_set c.loop-one.outs.items j id) (c.place-in-loop-one.ensures.place ∙ ap (λ ns. place_of ns u.target) (c.out_targets.ensures ∙ ap param_names c.as_slice-in-loop-one.ensures)) in
    let next = updated_more p a k c.args.terms.now c.loop-one.terms c.term.new.terms c.args.scope.now i u c.args.globals.now.items c.args.outs.now.items c.loop-one.globals.items c.loop-one.outs.items id at c.requires.scope c.loop-one.invariant.1 c.loop-one.invariant.0 c.in_ok-id.ensures.grows c.in_ok-id.ensures.built in (
      subst (λ (xs : List ℕ). AreUpdated c.args.terms.now c.term.new.terms c.args.scope.now p a (i + 1) c.args.globals.now.items c.args.outs.now.items xs c.write-in-loop-one.new.ids.items) (sym gs)
          (subst (λ (ys : List ℕ). AreUpdated c.args.terms.now c.term.new.terms c.args.scope.now p a (i + 1) c.args.globals.now.items c.args.outs.now.items (slice_set c.loop-one.globals.items (place_of (global_names p.globals) u.target) id) ys) (sym os) next),
      grows_trans _ _ _ c.loop-one.invariant.1 c.in_ok-id.ensures.grows,
      subst (LeavesOthers (global_names p.globals) (targets_of a) c.args.globals.now.items) (sym gs) (leaves_set (global_names p.globals) (targets_of a) c.args.globals.now.items c.loop-one.globals.items u.target id (target_there a.updates i u at) c.loop-one.invariant.2),
    )
