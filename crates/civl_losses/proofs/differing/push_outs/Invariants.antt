use Rattle.std.proofs.Common.{◌≡◌, ◌++◌, drop}
use Rattle.civl_losses.specs.Losses.{outs_differ}
use Rattle.civl_losses.proofs.differing.push_outs.Given as goal

abbrev pub invariant-loop-at : goal.invariant-loop-at
invariant-loop-at l = l.list ++ outs_differ l.at (drop l.at l.after) (drop l.at l.before) ≡ l.fn.list ++ outs_differ 0 l.after l.before
