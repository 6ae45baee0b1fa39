use Rattle.std.proofs.Common.{◌≡◌, drop}
use Rattle.civl_linear.specs.Places.{any_misgiven}
use Rattle.civl_linear.proofs.rules.any_misgiven.Given as goal

abbrev pub invariant-loop-at : goal.invariant-loop-at
invariant-loop-at l = any_misgiven l.proc (drop l.at l.outs) (drop l.at l.results) ≡ any_misgiven l.fn.proc l.fn.outs l.fn.results
