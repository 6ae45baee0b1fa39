use Rattle.civl_cdcl.proofs.Lessons.{Collects}
use Rattle.civl_cdcl.proofs.teaching.collect.Given as goal

abbrev pub invariant-loop-variable : goal.invariant-loop-variable
invariant-loop-variable l = Collects l.trail.marks l.trail.places l.clauses l.start l.fn.one l.seen l.found l.variable-index l.lits.items
