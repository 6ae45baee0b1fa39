use Rattle.std.proofs.Common.{◌≡◌, ◌<◌, ℕ, length, slice_index_or, None, false, unwrap_or}
use Rattle.civl_cdcl.proofs.solving.bits_of.Given as goal

abbrev pub invariant-loop-variable : goal.invariant-loop-variable
invariant-loop-variable l = record {
  size : length l.bits ≡ length l.marks;
  value : (v : ℕ) → v < l.variable → slice_index_or l.bits v false ≡ unwrap_or (slice_index_or l.marks v None) false;
}
