use Rattle.civl_cdcl.proofs.Lessons.{Clears}
use Rattle.civl_cdcl.proofs.teaching.forget.Given as goal

abbrev pub invariant-loop-variable : goal.invariant-loop-variable
invariant-loop-variable l = Clears l.fn.seen l.seen l.found l.variable-index
