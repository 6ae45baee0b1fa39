use Rattle.std.proofs.Common.{◌∙◌, sym, ap, ap₂, arith}
use Rattle.civl_conditions.specs.footprints.Agreement.{exists_at}
use Rattle.civl_states.specs.Items.{picked}
use Rattle.civl_states.proofs.Picking.{picked_kept, picked_passed, picked_end}
use Rattle.civl_states.proofs.globals.existing.Goals as goal
use Rattle.civl_states.proofs.globals.existing.Goals.{then-exists_at+in_ok-push-in-Some, else-exists_at}

pub loop-at-preserved : goal.loop-at-preserved
loop-at-preserved c = elim c.if-exists_at.branch [
  | then-exists_at+in_ok-push-in-Some w ↦ picked_kept (exists_at c.args.layer) c.as_slice-globals.result.now c.as_slice-ids.result.now c.loop-at.at _ c.in-Some.ensures.lookup.3.0 c.in-Some.ensures.lookup.1 (omega arith) c.loop-at.kept.items _ _ (sym c.exists_at.ensures ∙ w.if-exists_at.true) (ap (λ v. v.items) w.kept-is ∙ w.in_ok-push-in-Some.ensures.items) c.loop-at.invariant
  | else-exists_at w ↦ picked_passed (exists_at c.args.layer) c.as_slice-globals.result.now c.as_slice-ids.result.now c.loop-at.at _ c.in-Some.ensures.lookup.3.0 c.in-Some.ensures.lookup.1 (omega arith) c.loop-at.kept.items _ _ (sym c.exists_at.ensures ∙ w.if-exists_at.false) (ap (λ v. v.items) w.kept-is) c.loop-at.invariant
]

pub returns : goal.returns
returns c = picked_end (exists_at c.args.layer) c.as_slice-globals.result.now c.as_slice-ids.result.now c.loop-at.at c.loop-at.kept.items _ (omega arith) c.loop-at.invariant ∙ ap₂ (picked (exists_at c.args.layer)) c.as_slice-globals.ensures c.as_slice-ids.ensures
