use Rattle.std.proofs.Common.{arith}
use Rattle.civl_types.specs.Views.{scope_of}
use Rattle.civl_firing.specs.values.Weights.{weight_of}
use Rattle.civl_weighing.proofs.Capping.{weighs_same}
use Rattle.civl_weights.proofs.sums.Acting.{offers_are}
use Rattle.civl_weighing.proofs.Summing.{one_more, whole}
use Rattle.civl_weights.proofs.sums.actions.offers_weight.Goals as goal

pub loop-choice-preserved : goal.loop-choice-preserved
loop-choice-preserved c = one_more (λ x. weight_of (scope_of c.args.view.now) x.offer) c.args.choices.now c.loop-choice.choice-index c.choice-item.result (omega arith) c.choice-item.is c.plus-total.ensures c.weight_of.ensures c.loop-choice.invariant

pub returns : goal.returns
returns c = weighs_same (offers_are (scope_of c.args.view.now) c.args.choices.now) (whole (λ x. weight_of (scope_of c.args.view.now) x.offer) c.args.choices.now c.loop-choice.choice-index (omega arith) c.loop-choice.invariant)
