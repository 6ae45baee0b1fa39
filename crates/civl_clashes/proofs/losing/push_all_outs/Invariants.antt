use Rattle.std.proofs.Common.{◌≡◌, ◌++◌, drop}
use Rattle.civl_clashes.specs.Losses.{by_outs}
use Rattle.civl_clashes.proofs.losing.push_all_outs.Given as goal

abbrev pub invariant-loop-at : goal.invariant-loop-at
invariant-loop-at l = l.carried ++ by_outs l.at (drop l.at l.outs) (drop l.at l.values) ≡ l.fn.carried ++ by_outs 0 l.outs l.values
