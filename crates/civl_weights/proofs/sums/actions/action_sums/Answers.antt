use Rattle.std.proofs.Common.{arith}
use Rattle.civl_meaning.proofs.Zipping.{zip_more}
use Rattle.civl_weights.specs.sums.Sums.{OfAction}
use Rattle.civl_weights.proofs.sums.actions.action_sums.Goals as goal

pub loop-action-preserved : goal.loop-action-preserved
loop-action-preserved c = zip_more (OfAction c.args.program.now) _ c.loop-action.action-index c.action-item.result _ _ _ (omega arith) c.action-item.is c.loop-action.invariant c.sums_of.ensures c.in_ok-push.ensures.ok
