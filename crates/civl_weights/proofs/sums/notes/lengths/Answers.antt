use Rattle.std.proofs.Common.{arith}
use Rattle.std.proofs.Common.{length}
use Rattle.civl_weighing.proofs.Capping.{weighs_same}
use Rattle.civl_weighing.proofs.Listing.{each_more}
use Rattle.civl_weights.proofs.sums.notes.lengths.Goals as goal

pub loop-list-preserved : goal.loop-list-preserved
loop-list-preserved c = each_more (λ x. length x) c.args.lists.now c.loop-list.list-index c.list-item.result (omega arith) c.list-item.is c.in_ok-push.ensures.ok c.loop-list.invariant (weighs_same c.len.ensures c.of_count.ensures)
