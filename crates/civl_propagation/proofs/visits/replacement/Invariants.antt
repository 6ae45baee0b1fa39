use Rattle.std.proofs.Common.{◌≡◌, ◌⊎◌, ℕ, ◌<◌, get_or}
use Rattle.civl_cnf.specs.Literal.{Literal}
use Rattle.civl_units.specs.Propagation.{Fails}
use Rattle.civl_units.specs.Marks.{marked}
use Rattle.civl_propagation.proofs.visits.replacement.Given as goal

abbrev pub invariant-loop-lit : goal.invariant-loop-lit
invariant-loop-lit l = (k : ℕ) (d : Literal) → k < l.lit-index → (get_or l.clause k d ≡ l.other) ⊎ Fails (marked l.marks) (get_or l.clause k d)
