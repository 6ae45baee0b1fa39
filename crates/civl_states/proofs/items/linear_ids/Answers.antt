use Rattle.std.proofs.Common.{◌∙◌, ap, ap₂, arith}
use Rattle.civl_states.specs.Items.{picked}
use Rattle.civl_states.proofs.Picking.{picked_kept, picked_passed, picked_end}
use Rattle.civl_states.proofs.items.linear_ids.Goals as goal
use Rattle.civl_states.proofs.items.linear_ids.Goals.{then-global+in_ok-push-in-Some, else-global}

pub loop-at-preserved : goal.loop-at-preserved
loop-at-preserved c = elim c.if-global.branch [
  | then-global+in_ok-push-in-Some w ↦ picked_kept (λ g. g.linear) c.as_slice-globals.result.now c.as_slice-ids.result.now c.loop-at.at _ c.in-Some.ensures.lookup.3.0 c.in-Some.ensures.lookup.1 (omega arith) c.loop-at.kept.items _ _ w.if-global.true (ap (λ v. v.items) w.kept-is ∙ w.in_ok-push-in-Some.ensures.items) c.loop-at.invariant
  | else-global w ↦ picked_passed (λ g. g.linear) c.as_slice-globals.result.now c.as_slice-ids.result.now c.loop-at.at _ c.in-Some.ensures.lookup.3.0 c.in-Some.ensures.lookup.1 (omega arith) c.loop-at.kept.items _ _ w.if-global.false (ap (λ v. v.items) w.kept-is) c.loop-at.invariant
]

pub returns : goal.returns
returns c = picked_end (λ g. g.linear) c.as_slice-globals.result.now c.as_slice-ids.result.now c.loop-at.at c.loop-at.kept.items _ (omega arith) c.loop-at.invariant ∙ ap₂ (picked (λ g. g.linear)) c.as_slice-globals.ensures c.as_slice-ids.ensures
