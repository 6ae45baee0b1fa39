use Rattle.std.proofs.Common.{◌≡◌, ◌<◌, ℕ, length, slice_index_or, false}
use Rattle.civl_provers.proofs.probe.copy_of.Given as goal

abbrev pub invariant-loop-at : goal.invariant-loop-at
invariant-loop-at l = record {
  size : length l.copy ≡ length l.bits;
  value : (v : ℕ) → v < l.at → slice_index_or l.copy v false ≡ slice_index_or l.bits v false;
}
