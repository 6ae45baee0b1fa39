use Rattle.std.proofs.Common.{◌≤◌, ◌<◌, length, slice_index_or}
use Rattle.civl_cdcl.proofs.levels.levels_below.Given as goal

abbrev pub invariant-loop-levels : goal.invariant-loop-levels
invariant-loop-levels l = record {
  fewer : l.levels < length l.starts;
  over : l.limit ≤ slice_index_or l.starts l.levels 0;
}

abbrev pub decreases-loop-levels : goal.decreases-loop-levels
decreases-loop-levels l = l.levels
