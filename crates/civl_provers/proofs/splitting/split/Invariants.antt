use Rattle.std.proofs.Common.{◌≤◌, length}
use Rattle.civl_provers.specs.Splitter.{IsSplit, left}
use Rattle.civl_provers.specs.inner.Standing.{LookSays}
use Rattle.civl_provers.proofs.splitting.split.Given as goal

abbrev pub invariant-branches : goal.invariant-branches
invariant-branches l = record {
  split : IsSplit l.cnf l.falses.items l.log;
  low : length l.falses.items ≤ l.depth;
  looks : LookSays l.engine l.cnf l.falses.items l.conflict;
}

abbrev pub decreases-branches : goal.decreases-branches
decreases-branches l = left l.depth l.falses.items
