use Rattle.std.proofs.Common.{◌≡◌, ◌++◌, drop}
use Rattle.civl_clashes.specs.Differences.{outs_differ}
use Rattle.civl_clashes.proofs.difference.push_outs.Given as goal

abbrev pub invariant-loop-at : goal.invariant-loop-at
invariant-loop-at l = l.list ++ outs_differ l.which l.at (drop l.at l.kept) (drop l.at l.exchanged) ≡ l.fn.list ++ outs_differ l.which 0 l.kept l.exchanged
