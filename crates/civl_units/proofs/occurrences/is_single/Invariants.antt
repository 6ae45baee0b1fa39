use Rattle.std.proofs.Common.{◌≡◌, ◌<◌, ℕ, get_or}
use Rattle.civl_cnf.specs.Literal.{Literal}
use Rattle.civl_units.proofs.occurrences.is_single.Given as goal

abbrev pub invariant-loop-lit : goal.invariant-loop-lit
invariant-loop-lit l = (k : ℕ) (d : Literal) → k < l.lit-index → get_or l.clause k d ≡ get_or l.clause 0 d
