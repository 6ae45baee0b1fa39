use Rattle.civl_cdcl.specs.inner.Analysis.{ReachSays}
use Rattle.civl_cdcl.proofs.teaching.reach.Given as goal

abbrev pub invariant-loop-lit : goal.invariant-loop-lit
invariant-loop-lit l = ReachSays l.places l.clause l.start l.reach
