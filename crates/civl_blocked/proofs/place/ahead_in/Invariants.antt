use Rattle.std.proofs.Common.{◌≡◌, drop}
use Rattle.civl_reduction.specs.blocks.Ahead.{ahead_in}
use Rattle.civl_meaning.specs.Remaining.{rest_of}
use Rattle.civl_blocked.proofs.place.ahead_in.Given as goal

abbrev pub invariant-loop-at : goal.invariant-loop-at
invariant-loop-at l = l.behind ≡ ahead_in l.program (rest_of (drop l.at l.rest))
