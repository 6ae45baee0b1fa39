use Rattle.std.proofs.Common.{◌≡◌, drop}
use Rattle.civl_subjects.specs.Linear.{first_misgiven}
use Rattle.civl_subjects.proofs.linear.first_misgiven.Given as goal

abbrev pub invariant-loop-at : goal.invariant-loop-at
invariant-loop-at l = first_misgiven l.proc (drop l.at l.outs) (drop l.at l.results) ≡ first_misgiven l.fn.proc l.fn.outs l.fn.results
