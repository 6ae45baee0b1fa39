use Rattle.std.proofs.Common.{◌≡◌, ℕ, ◌<◌, false, length, slice_index_or}
use Rattle.civl_firing.specs.Table.{bit_of}
use Rattle.civl_firing.proofs.table.bits.Given as goal

abbrev pub invariant-loop-number : goal.invariant-loop-number
invariant-loop-number l = (length l.values.items ≡ l.number) × ((j : ℕ) → j < l.number → slice_index_or l.values.items j false ≡ bit_of l.place j)
