use Rattle.std.proofs.Common.{◌≡◌, ◌++◌}
use Rattle.civl_bodies.specs.Numbers.{counted}
use Rattle.civl_bodies.proofs.numbers.push_run.Given as goal

abbrev pub invariant-loop-at : goal.invariant-loop-at
invariant-loop-at l = l.list.items ≡ l.fn.list.items ++ counted l.run.first l.at
