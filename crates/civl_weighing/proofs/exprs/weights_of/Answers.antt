use Rattle.std.proofs.Common.{arith}
use Rattle.civl_types.specs.Views.{scope_of}
use Rattle.civl_firing.specs.values.Weights.{weight_of}
use Rattle.civl_weighing.proofs.Summing.{one_more}
use Rattle.civl_weighing.proofs.exprs.weights_of.Goals as goal

pub loop-expr-preserved : goal.loop-expr-preserved
loop-expr-preserved c = one_more (weight_of (scope_of c.args.view.now)) c.args.exprs.now c.loop-expr.expr-index c.expr-item.result (omega arith) c.expr-item.is c.plus-total.ensures c.weight_of.ensures c.loop-expr.invariant
