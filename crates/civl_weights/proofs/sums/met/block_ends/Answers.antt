use Rattle.std.proofs.Common.{arith, ap, Bool}
use Rattle.std.specs.Prelude.{if◌then◌else◌}
use Rattle.civl_weights.specs.inner.sums.Met.{block_end}
use Rattle.civl_weighing.proofs.Capping.{weighs_same}
use Rattle.civl_weighing.proofs.Summing.{one_more_at, counted, whole}
use Rattle.civl_weights.proofs.sums.met.block_ends.Goals as goal

pub loop-end-preserved : goal.loop-end-preserved
loop-end-preserved c = one_more_at (λ e. if block_end c.args.cuts.now e then 1 else 0) c.args.ends.now c.loop-end.end-index _ (omega arith) c.plus-total.ensures (weighs_same (ap (λ (b : Bool). if b then 1 else 0) c.ends_block.ensures) c.one_where.ensures) c.loop-end.invariant

pub returns : goal.returns
returns c = weighs_same (counted (block_end c.args.cuts.now) c.args.ends.now) (whole (λ e. if block_end c.args.cuts.now e then 1 else 0) c.args.ends.now c.loop-end.end-index (omega arith) c.loop-end.invariant)
