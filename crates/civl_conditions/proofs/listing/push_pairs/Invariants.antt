use Rattle.std.proofs.Common.{◌≡◌, ◌++◌, drop}
use Rattle.civl_conditions.specs.Steps.{each_at}
use Rattle.civl_conditions.specs.Listed.{pair_of}
use Rattle.civl_conditions.proofs.listing.push_pairs.Given as goal

abbrev pub invariant-loop-y : goal.invariant-loop-y
invariant-loop-y l =
    l.list ++ each_at (pair_of l.step l.x l.first) l.y (drop l.y l.actions) ≡ l.fn.list ++ each_at (pair_of l.step l.x l.first) 0 l.fn.program.actions
