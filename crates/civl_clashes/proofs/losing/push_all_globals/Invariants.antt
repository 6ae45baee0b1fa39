use Rattle.std.proofs.Common.{◌≡◌, ◌++◌, drop}
use Rattle.civl_clashes.specs.Losses.{by_globals}
use Rattle.civl_clashes.proofs.losing.push_all_globals.Given as goal

abbrev pub invariant-loop-at : goal.invariant-loop-at
invariant-loop-at l = l.carried ++ by_globals l.at (drop l.at l.globals) (drop l.at l.values) ≡ l.fn.carried ++ by_globals 0 l.globals l.values
