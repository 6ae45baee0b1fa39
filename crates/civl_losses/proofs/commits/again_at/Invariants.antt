use Rattle.std.proofs.Common.{◌≡◌, drop}
use Rattle.civl_losses.specs.Losses.{again_at}
use Rattle.civl_losses.proofs.commits.again_at.Given as goal

abbrev pub invariant-loop-passage : goal.invariant-loop-passage
invariant-loop-passage l = again_at (drop l.passage-index l.passed) l.at ≡ again_at l.passed l.at
