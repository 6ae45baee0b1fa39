use Rattle.std.proofs.Common.{List, map, ap}
use Rattle.civl_tree.specs.declared.program.Thread.{Thread}
use Rattle.civl_conditions.specs.Weights.{summed, weights_of, global_weight, thread_items}
use Rattle.civl_weighing.proofs.Capping.{sum_weighs, linear_weighs, weighs_same}
use Rattle.civl_weights.proofs.sums.tables.initial_own.Goals as goal

pub returns : goal.returns
returns c =
    let items = sum_weighs c.plus-items.ensures c.requires (weighs_same (ap (λ (ts : List Thread). summed (map (thread_items c.args.program.now) ts)) c.as_slice-threads.ensures) c.all_thread_items.ensures) in
    let args = weighs_same (ap (λ (ts : List Thread). summed (map (λ t. weights_of (global_weight c.args.program.now) t.args) ts)) c.as_slice-threads.ensures) c.args_weight.ensures in
    sum_weighs c.plus-2.ensures (sum_weighs c.plus.ensures c.weight_of-init.ensures args) (linear_weighs c.linear.ensures items)
