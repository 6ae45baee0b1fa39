use Rattle.std.proofs.Common.{◌∙◌, ap, ap₂, sym, arith}
use Rattle.civl_states.specs.Items.{picked, is_which}
use Rattle.civl_states.proofs.Picking.{picked_kept, picked_passed, picked_end}
use Rattle.civl_states.proofs.items.chosen_ids.Goals as goal
use Rattle.civl_states.proofs.items.chosen_ids.Goals.{then-is_which+in_ok-push-in-Some, else-is_which}

pub loop-at-preserved : goal.loop-at-preserved
loop-at-preserved c = elim c.if-is_which.branch [
  | then-is_which+in_ok-push-in-Some w ↦ picked_kept (λ p. is_which c.args.which p.mode) c.as_slice-params.result.now c.as_slice-ids.result.now c.loop-at.at _ c.in-Some.ensures.lookup.3.0 c.in-Some.ensures.lookup.1 (omega arith) c.loop-at.kept.items _ _ (sym w.if-is_which.ensures) (ap (λ v. v.items) w.kept-is ∙ w.in_ok-push-in-Some.ensures.items) c.loop-at.invariant
  | else-is_which w ↦ picked_passed (λ p. is_which c.args.which p.mode) c.as_slice-params.result.now c.as_slice-ids.result.now c.loop-at.at _ c.in-Some.ensures.lookup.3.0 c.in-Some.ensures.lookup.1 (omega arith) c.loop-at.kept.items _ _ (sym w.if-is_which.ensures) (ap (λ v. v.items) w.kept-is) c.loop-at.invariant
]

pub returns : goal.returns
returns c = picked_end (λ p. is_which c.args.which p.mode) c.as_slice-params.result.now c.as_slice-ids.result.now c.loop-at.at c.loop-at.kept.items _ (omega arith) c.loop-at.invariant ∙ ap₂ (picked (λ p. is_which c.args.which p.mode)) c.as_slice-params.ensures c.as_slice-ids.ensures
