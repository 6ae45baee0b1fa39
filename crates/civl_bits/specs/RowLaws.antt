-- The axioms of arrays, for rows: read over write, the constant array, and extensionality.
use Rattle.std.specs.Prelude.{◌≡◌, ◌≢◌, ℕ, ◌^◌, ◌≤◌, ◌<◌}
use Rattle.civl_bits.specs.Row.{Cells, IsRow, cell_at, row_with, filled_row}

abbrev pub ReadOverWriteSame : Type 0
ReadOverWriteSame = (row : Cells) (i v : ℕ) → IsRow row → i < 2 ^ row.index → cell_at (row_with row i v) i ≡ v

abbrev pub ReadOverWriteOther : Type 0
ReadOverWriteOther = (row : Cells) (i j v : ℕ) → j ≢ i → cell_at (row_with row i v) j ≡ cell_at row j

abbrev pub ReadOfFill : Type 0
ReadOfFill = (index width v i : ℕ) → i < 2 ^ index → cell_at (filled_row index width v) i ≡ v

abbrev pub CellsDetermine : Type 0
CellsDetermine = (r s : Cells) → IsRow r → IsRow s → r.index ≡ s.index → r.width ≡ s.width → ((i : ℕ) → i < 2 ^ r.index → cell_at r i ≡ cell_at s i) → r ≡ s

-- what the calls make are rows
abbrev pub WritesStayRows : Type 0
WritesStayRows = (row : Cells) (i v : ℕ) → IsRow row → i < 2 ^ row.index → v < 2 ^ row.width → IsRow (row_with row i v)

abbrev pub FillsAreRows : Type 0
FillsAreRows = (index width v : ℕ) → 1 ≤ index → index ≤ 6 → 1 ≤ width → width ≤ 32 → v < 2 ^ width → IsRow (filled_row index width v)
