use Rattle.std.proofs.Common.{◌≡◌, take, drop}
use Rattle.civl_reduction.specs.gathering.Gathered.{AllPass, FailsSooner}
use Rattle.civl_blocked.specs.inner.Segments.{over}
use Rattle.civl_blocked.proofs.shortening.shortened.Given as goal

abbrev pub invariant-loop-at : goal.invariant-loop-at
invariant-loop-at l = record {
  kept : l.kept.items ≡ take l.at l.moves;
  pass : AllPass (over l.ground) l.thread (take l.at l.moves) l.from l.config;
  sooner : FailsSooner (over l.ground) l.thread (drop l.at l.moves) l.config;
}
