use Rattle.std.proofs.Common.{length}
use Rattle.civl_units.proofs.Assumed.{Assumes}
use Rattle.civl_units.proofs.propagation.assume.Given as goal

abbrev pub invariant-loop-lit : goal.invariant-loop-lit
invariant-loop-lit l = Assumes l.marks.values (length l.fn.marks.values) l.clause l.lit-index
