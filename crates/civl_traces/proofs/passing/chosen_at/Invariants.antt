use Rattle.std.proofs.Common.{◌≡◌, drop}
use Rattle.civl_traces.specs.Told.{chosen_at}
use Rattle.civl_traces.proofs.passing.chosen_at.Given as goal

abbrev pub invariant-loop-call : goal.invariant-loop-call
invariant-loop-call l = chosen_at (drop l.call-index l.chosen) l.number ≡ chosen_at l.chosen l.number
