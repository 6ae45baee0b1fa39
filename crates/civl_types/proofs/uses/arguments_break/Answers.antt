use Rattle.std.proofs.Common.{◌≡◌, ◌∙◌, Bool, true, false, ap, sym, drop, ◌+◌}
use Rattle.std.specs.Prelude.{Option, ◌||◌, slice_get}
use Rattle.civl_tree.specs.declared.expr.Sort.{Sort}
use Rattle.civl_tree.specs.rules.Uses.{target_use, argument_uses}
use Rattle.civl_types.specs.inner.Rules.{sorts_at, use_breaks, any_use}
use Rattle.civl_types.specs.Views.{scope_of}
use Rattle.civl_types.proofs.Slots.{next_use}
use Rattle.civl_types.proofs.uses.arguments_break.Goals as goal

pub returns-then-target_breaks : goal.returns-then-target_breaks
returns-then-target_breaks c =
    let code = c.args.rule in
    let scope = scope_of c.args.view.now in
    let sorts = sorts_at c.args.slots.now in
    let arg = c.index-args-at.result in
    let next = ap (any_use code) (next_use scope c.args.args.now sorts c.loop-at.at arg c.loop-at-test.true c.index-args-at.is) in
    let rest = any_use code (argument_uses scope (drop (c.loop-at.at + 1) c.args.args.now) (drop (c.loop-at.at + 1) sorts)) in
    let here : true ≡ use_breaks code (target_use scope arg (slice_get sorts c.loop-at.at)) =
    c.if-target_breaks.ensures ∙ ap (λ (sort : Option Sort). use_breaks code (target_use scope arg sort)) c.slot.ensures in
    sym (sym c.loop-at.invariant ∙ next ∙ ap (λ (b : Bool). b || rest) (sym here))

pub loop-at-preserved : goal.loop-at-preserved
loop-at-preserved c =
    let code = c.args.rule in
    let scope = scope_of c.args.view.now in
    let sorts = sorts_at c.args.slots.now in
    let arg = c.index-args-at.result in
    let next = ap (any_use code) (next_use scope c.args.args.now sorts c.loop-at.at arg c.loop-at-test.true c.index-args-at.is) in
    let rest = any_use code (argument_uses scope (drop (c.loop-at.at + 1) c.args.args.now) (drop (c.loop-at.at + 1) sorts)) in
    let here : false ≡ use_breaks code (target_use scope arg (slice_get sorts c.loop-at.at)) =
    c.if-target_breaks.ensures ∙ ap (λ (sort : Option Sort). use_breaks code (target_use scope arg sort)) c.slot.ensures in
    sym (next ∙ ap (λ (b : Bool). b || rest) (sym here)) ∙ c.loop-at.invariant
