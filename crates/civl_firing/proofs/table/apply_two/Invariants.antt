use Rattle.std.proofs.Common.{◌≡◌, ℕ, ◌<◌, ◌≤◌, false, length, slice_index_or}
use Rattle.civl_firing.specs.Truth.{two_truth}
use Rattle.civl_firing.proofs.table.apply_two.Given as goal

abbrev pub invariant-loop-at : goal.invariant-loop-at
invariant-loop-at l = record {
  size : length l.a.items ≡ length l.initial.a.items;
  before : (j : ℕ) → j < l.at → slice_index_or l.a.items j false ≡ two_truth l.op (slice_index_or l.initial.a.items j false) (slice_index_or l.b.items j false);
  behind : (j : ℕ) → l.at ≤ j → slice_index_or l.a.items j false ≡ slice_index_or l.initial.a.items j false;
}
