use Rattle.std.proofs.Common.{◌≡◌, ℕ, ◌-◌, ◌<◌, ◌≤◌, false, slice_index_or, vec_len}
use Rattle.civl_firing.proofs.table.constant.Given as goal

abbrev pub invariant-loop-values : goal.invariant-loop-values
invariant-loop-values l = record {
  size : vec_len l.values ≤ l.size;
  value : (j : ℕ) → j < vec_len l.values → slice_index_or l.values.items j false ≡ l.value;
}

abbrev pub decreases-loop-values : goal.decreases-loop-values
decreases-loop-values l = l.size - vec_len l.values
