use Rattle.std.proofs.Common.{◌≡◌, ◌++◌, drop}
use Rattle.civl_conditions.specs.Steps.{each_at}
use Rattle.civl_goals.specs.Listed.{proc_goals, statement_goals}
use Rattle.civl_goals.proofs.listing.push_procs.Given as goal

abbrev pub invariant-loop-at : goal.invariant-loop-at
invariant-loop-at l = l.list ++ each_at (proc_goals l.program l.others.items) l.at (drop l.at l.procs) ≡ l.fn.list ++ statement_goals l.program l.outline
