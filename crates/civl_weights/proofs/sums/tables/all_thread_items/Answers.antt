use Rattle.std.proofs.Common.{arith}
use Rattle.civl_conditions.specs.Weights.{thread_items}
use Rattle.civl_weighing.proofs.Summing.{one_more}
use Rattle.civl_weights.proofs.sums.tables.all_thread_items.Goals as goal

pub loop-thread-preserved : goal.loop-thread-preserved
loop-thread-preserved c = one_more (λ t. thread_items c.args.program.now t) c.args.threads.now c.loop-thread.thread-index c.thread-item.result (omega arith) c.thread-item.is c.plus-total.ensures c.thread_items.ensures c.loop-thread.invariant
