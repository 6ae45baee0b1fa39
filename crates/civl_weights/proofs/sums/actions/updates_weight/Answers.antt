use Rattle.std.proofs.Common.{arith}
use Rattle.civl_types.specs.Views.{scope_of}
use Rattle.civl_firing.specs.values.Weights.{weight_of}
use Rattle.civl_weighing.proofs.Capping.{weighs_same}
use Rattle.civl_weights.proofs.sums.Acting.{updates_are}
use Rattle.civl_weighing.proofs.Summing.{one_more, whole}
use Rattle.civl_weights.proofs.sums.actions.updates_weight.Goals as goal

pub loop-update-preserved : goal.loop-update-preserved
loop-update-preserved c = one_more (λ u. weight_of (scope_of c.args.view.now) u.expr) c.args.updates.now c.loop-update.update-index c.update-item.result (omega arith) c.update-item.is c.plus-total.ensures c.weight_of.ensures c.loop-update.invariant

pub returns : goal.returns
returns c = weighs_same (updates_are (scope_of c.args.view.now) c.args.updates.now) (whole (λ u. weight_of (scope_of c.args.view.now) u.expr) c.args.updates.now c.loop-update.update-index (omega arith) c.loop-update.invariant)
