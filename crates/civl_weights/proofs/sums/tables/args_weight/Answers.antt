use Rattle.std.proofs.Common.{arith, List, ap}
use Rattle.civl_tree.specs.declared.expr.Expr.{Expr}
use Rattle.civl_weighing.proofs.Capping.{weighs_same}
use Rattle.civl_conditions.specs.Weights.{weights_of, global_weight}
use Rattle.civl_weighing.proofs.Summing.{one_more}
use Rattle.civl_weights.proofs.sums.tables.args_weight.Goals as goal

pub loop-thread-preserved : goal.loop-thread-preserved
loop-thread-preserved c = one_more (λ t. weights_of (global_weight c.args.program.now) t.args) c.args.threads.now c.loop-thread.thread-index c.thread-item.result (omega arith) c.thread-item.is c.plus-total.ensures (weighs_same (ap (λ (es : List Expr). weights_of (global_weight c.args.program.now) es) c.as_slice.ensures) c.weights_of.ensures) c.loop-thread.invariant
