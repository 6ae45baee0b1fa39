use Rattle.std.proofs.Common.{map, take}
use Rattle.std.specs.Prelude.{if◌then◌else◌}
use Rattle.civl_conditions.specs.Weights.{summed}
use Rattle.civl_weighing.specs.Weighing.{Weighs}
use Rattle.civl_weights.specs.inner.sums.Met.{block_end}
use Rattle.civl_weights.proofs.sums.met.block_ends.Given as goal

abbrev pub invariant-loop-end : goal.invariant-loop-end
invariant-loop-end l = Weighs l.total (summed (map (λ e. if block_end l.cuts e then 1 else 0) (take l.end-index l.ends)))
