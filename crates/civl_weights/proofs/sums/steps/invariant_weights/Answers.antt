use Rattle.std.proofs.Common.{arith}
use Rattle.civl_types.specs.Views.{scope_of}
use Rattle.civl_weights.proofs.sums.Adding.{invariant_more}
use Rattle.civl_weights.proofs.sums.steps.invariant_weights.Goals as goal

pub loop-invariant-preserved : goal.loop-invariant-preserved
loop-invariant-preserved c = invariant_more (scope_of c.args.view.now) c.args.step c.args.invariants.now c.loop-invariant.invariant-index c.invariant-item.result (omega arith) c.invariant-item.is c.in_ok-add_invariant.ensures c.loop-invariant.invariant
