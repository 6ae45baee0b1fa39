use Rattle.std.proofs.Common.{◌⊎◌, ◌≡◌, ◌<◌, ℕ, slice_index_or}
use Rattle.std.specs.Prelude.{IsTrue}
use Rattle.civl_cnf.specs.Literal.{Literal}
use Rattle.civl_cdcl.specs.inner.Analysis.{sees}
use Rattle.civl_cdcl.proofs.teaching.all_seen.Given as goal

abbrev pub invariant-loop-lit : goal.invariant-loop-lit
invariant-loop-lit l =
    (k : ℕ) (d : Literal) → k < l.lit-index → let v = (slice_index_or l.clause k d).variable in (v ≡ l.besides) ⊎ (slice_index_or l.places v 0 < l.root) ⊎ IsTrue (sees l.seen v)
