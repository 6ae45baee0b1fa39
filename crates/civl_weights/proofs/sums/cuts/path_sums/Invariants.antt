use Rattle.std.proofs.Common.{take}
use Rattle.civl_weights.specs.sums.Sums.{OfCuts}
use Rattle.civl_weights.proofs.sums.cuts.path_sums.Given as goal

abbrev pub invariant-loop-number : goal.invariant-loop-number
invariant-loop-number l = OfCuts l.program l.step.step l.proc 0 (take l.number l.items) l.sums
