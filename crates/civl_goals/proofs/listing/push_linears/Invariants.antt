use Rattle.std.proofs.Common.{◌≡◌, ◌++◌, drop}
use Rattle.civl_conditions.specs.Steps.{each_at}
use Rattle.civl_goals.specs.Listed.{linear_goal, linear_goals}
use Rattle.civl_goals.proofs.listing.push_linears.Given as goal

abbrev pub invariant-loop-at : goal.invariant-loop-at
invariant-loop-at l = l.list ++ each_at (linear_goal l.program) l.at (drop l.at l.actions) ≡ l.fn.list ++ linear_goals l.fn.program
