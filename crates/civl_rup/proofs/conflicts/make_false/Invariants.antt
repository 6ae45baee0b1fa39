use Rattle.std.proofs.Common.{length}
use Rattle.civl_rup.proofs.Standings.{IsMaking}
use Rattle.civl_rup.proofs.conflicts.make_false.Given as goal

abbrev pub invariant-loop-lit : goal.invariant-loop-lit
invariant-loop-lit l = IsMaking l.engine (length l.fn.engine.trail.marks) l.fn.engine.clauses l.lits l.lit-index
