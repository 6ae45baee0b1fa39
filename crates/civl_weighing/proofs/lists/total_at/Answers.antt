use Rattle.std.proofs.Common.{arith}
use Rattle.std.specs.Prelude.{slice_index_or as get_or}
use Rattle.civl_weighing.proofs.Summing.{one_more_at, whole}
use Rattle.civl_weighing.proofs.lists.total_at.Goals as goal

pub loop-at-preserved : goal.loop-at-preserved
loop-at-preserved c = λ ns h. one_more_at (λ at. get_or ns at 0) c.args.places.now c.loop-at.at-index _ (omega arith) c.plus-total.ensures (c.weight_at.ensures.is ns h) (c.loop-at.invariant ns h)

pub returns : goal.returns
returns c = record { is = λ ns h. whole (λ at. get_or ns at 0) c.args.places.now c.loop-at.at-index (omega arith) (c.loop-at.invariant ns h) }
