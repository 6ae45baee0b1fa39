use Rattle.std.proofs.Common.{◌+◌, ◌∙◌, sym, ap, Some}
use Rattle.civl_tree.specs.declared.refusal.Refusal.{Refusal}
use Rattle.civl_tree.specs.rules.Codes.{E11}
use Rattle.civl_tree.specs.rules.Rules.{refusal_at}
use Rattle.civl_names.specs.inner.Strange.{declared_in, broken_items}
use Rattle.civl_names.proofs.walks.Placing.{found_item, found_behind, found_none}
use Rattle.civl_names.proofs.Same.{item_found, item_kept}
use Rattle.civl_names.proofs.unknown.first_item.Goals as goal

pub returns-then-branch : goal.returns-then-branch
returns-then-branch g c =
    sym (sym c.loop-place.invariant
    ∙ found_item (refusal_at E11) (broken_items (g.T.Judged.unknown (declared_in c.args.sets.now)) c.args.before) c.args.items.now c.loop-place.place c.index-items-place.result c.unknown_at.result c.loop-place-test.true c.index-items-place.is
    (ap (λ (r : Refusal). Some r) c.unknown_at.ensures ∙ item_found _ (c.args.before + c.loop-place.place) (sym c.in_ok-is_unknown.ensures ∙ c.if-branch.true)))

pub loop-place-preserved : goal.loop-place-preserved
loop-place-preserved g c =
    found_behind (refusal_at E11) (broken_items (g.T.Judged.unknown (declared_in c.args.sets.now)) c.args.before) c.args.items.now c.loop-place.place c.index-items-place.result c.loop-place-test.true c.index-items-place.is
    (item_kept _ (c.args.before + c.loop-place.place) (sym c.in_ok-is_unknown.ensures ∙ c.if-branch.false))
    ∙ c.loop-place.invariant

pub returns : goal.returns
returns g c =
    sym (sym c.loop-place.invariant ∙ found_none (refusal_at E11) (broken_items (g.T.Judged.unknown (declared_in c.args.sets.now)) c.args.before) c.args.items.now c.loop-place.place c.loop-place-test.false)
