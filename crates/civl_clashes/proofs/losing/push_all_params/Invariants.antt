use Rattle.std.proofs.Common.{◌≡◌, ◌++◌, drop}
use Rattle.civl_clashes.specs.Losses.{by_params}
use Rattle.civl_clashes.proofs.losing.push_all_params.Given as goal

abbrev pub invariant-loop-at : goal.invariant-loop-at
invariant-loop-at l = l.carried ++ by_params l.at (drop l.at l.params) (drop l.at l.values) ≡ l.fn.carried ++ by_params 0 l.params l.values
