use Rattle.std.proofs.Common.{◌≡◌, arith}
use Rattle.std.specs.Prelude.{slice_get, Some}
use Rattle.civl_tree.specs.rules.Scopes.{gate_scope}
use Rattle.civl_terms.proofs.Growing.{grows_trans}
use Rattle.civl_actions.proofs.Staying.{fits_stay}
use Rattle.civl_actions.proofs.Rules.{kept, offer_typed}
use Rattle.civl_actions.proofs.Listing.{item_at, offered_step}
use Rattle.civl_actions.proofs.parts.offered.Goals as goal

pub term-requires : goal.term-requires
term-requires c =
    let p = c.args.program.now in
    let a = c.args.action.now in
    let k = kept p c.requires.rules c.requires.action.0 a c.requires.action.1 in
    let at : slice_get a.choices c.loop-choice.choice-index ≡ Some c.choice-item.result = item_at a.choices c.as_slice-choice-items.result.now c.loop-choice.choice-index c.choice-item.result c.as_slice-choice-items.ensures (omega arith) c.choice-item.is in
    (gate_scope p a, fits_stay c.args.terms.now c.loop-choice.terms c.args.scope.now (gate_scope p a) c.loop-choice.invariant.1 c.requires.scope, offer_typed p a k c.loop-choice.choice-index c.choice-item.result at)

pub returns-in_err-id-clause-grows : goal.returns-in_err-id-clause-grows
returns-in_err-id-clause-grows c = grows_trans _ _ _ c.loop-choice.invariant.1 c.in_err-id.ensures.grows

pub returns-in_err-push-clause-grows : goal.returns-in_err-push-clause-grows
returns-in_err-push-clause-grows c = grows_trans _ _ _ c.loop-choice.invariant.1 c.in_ok-id.ensures.grows

pub loop-choice-preserved : goal.loop-choice-preserved
loop-choice-preserved c =
    let p = c.args.program.now in
    let a = c.args.action.now in
    let k = kept p c.requires.rules c.requires.action.0 a c.requires.action.1 in
    let at : slice_get a.choices c.loop-choice.choice-index ≡ Some c.choice-item.result = item_at a.choices c.as_slice-choice-items.result.now c.loop-choice.choice-index c.choice-item.result c.as_slice-choice-items.ensures (omega arith) c.choice-item.is in (
      offered_step p a k c.args.terms.now c.loop-choice.terms c.term.new.terms c.args.scope.now c.loop-choice.choice-index c.choice-item.result c.loop-choice.ids.items _ c.in_ok-id.id at c.requires.scope c.loop-choice.invariant.1 c.loop-choice.invariant.0 c.in_ok-id.ensures.grows c.in_ok-id.ensures.built c.in_ok-push.ensures.items,
      grows_trans _ _ _ c.loop-choice.invariant.1 c.in_ok-id.ensures.grows,
    )
