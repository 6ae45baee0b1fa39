use Rattle.std.proofs.Common.{◌∙◌, sym}
use Rattle.civl_tree.specs.rules.Rules.{refusal_at}
use Rattle.civl_names.proofs.walks.Placing.{found_item, found_behind, found_none}
use Rattle.civl_names.proofs.walks.item.first_item.Goals as goal

pub returns-in-Some : goal.returns-in-Some
returns-in-Some g c =
    let rule = g.R.Decides.rule c.args.rule.now in
    sym (sym c.loop-place.invariant
    ∙ found_item (refusal_at rule.code) (g.T.Item.places_in rule c.args.program.now) c.args.items.now c.loop-place.place c.index-items-place.result c.in-Some.refusal c.loop-place-test.true c.index-items-place.is c.in-Some.ensures)

pub loop-place-preserved : goal.loop-place-preserved
loop-place-preserved g c =
    let rule = g.R.Decides.rule c.args.rule.now in
    found_behind (refusal_at rule.code) (g.T.Item.places_in rule c.args.program.now) c.args.items.now c.loop-place.place c.index-items-place.result c.loop-place-test.true c.index-items-place.is (sym c.in_default.is ∙ c.refusal.ensures)
    ∙ c.loop-place.invariant

pub returns : goal.returns
returns g c =
    let rule = g.R.Decides.rule c.args.rule.now in
    sym (sym c.loop-place.invariant
    ∙ found_none (refusal_at rule.code) (g.T.Item.places_in rule c.args.program.now) c.args.items.now c.loop-place.place c.loop-place-test.false)
