use Rattle.std.proofs.Common.{◌≡◌, drop}
use Rattle.civl_clashes.specs.Losses.{twice}
use Rattle.civl_clashes.proofs.carried.twice.Given as goal

abbrev pub invariant-loop-at : goal.invariant-loop-at
invariant-loop-at l = twice (drop l.at l.carried) ≡ twice l.carried
