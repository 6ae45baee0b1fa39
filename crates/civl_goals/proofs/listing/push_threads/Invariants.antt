use Rattle.std.proofs.Common.{◌≡◌, ◌++◌, drop}
use Rattle.civl_conditions.specs.Steps.{each_at}
use Rattle.civl_goals.specs.Listed.{thread_goal, thread_goals}
use Rattle.civl_goals.proofs.listing.push_threads.Given as goal

abbrev pub invariant-loop-at : goal.invariant-loop-at
invariant-loop-at l = l.list ++ each_at (thread_goal l.program) l.at (drop l.at l.threads) ≡ l.fn.list ++ thread_goals l.fn.program
