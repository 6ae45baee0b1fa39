use Rattle.std.proofs.Common.{arith}
use Rattle.civl_weighing.proofs.Listing.{total_more, total_all}
use Rattle.civl_weighing.proofs.lists.total.Goals as goal

pub loop-weight-preserved : goal.loop-weight-preserved
loop-weight-preserved c = λ ns h. total_more c.args.weights.now ns c.loop-weight.weight-index _ (omega arith) h c.plus-total.ensures (c.loop-weight.invariant ns h)

pub returns : goal.returns
returns c = record { is = λ ns h. total_all c.args.weights.now ns c.loop-weight.weight-index (omega arith) h (c.loop-weight.invariant ns h) }
