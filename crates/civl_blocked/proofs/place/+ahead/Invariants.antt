use Rattle.std.proofs.Common.{◌≡◌, drop}
use Rattle.civl_reduction.specs.blocks.Ahead.{ahead_list}
use Rattle.civl_blocked.proofs.place.+ahead.Given as goal

abbrev pub invariant-ahead_list-loop-at : goal.invariant-ahead_list-loop-at
invariant-ahead_list-loop-at l = l.behind ≡ ahead_list l.program (drop l.at l.items) l.fn.later
