-- Another value of the same sort.
use Rattle.std.specs.Prelude.{ℕ, Bool, not, nat_eq, if◌then◌else◌}
use Rattle.civl_bits.specs.declared.value.Value.{Value}
use Rattle.civl_bits.specs.declared.value.Value.TheVariants as value
use Rattle.civl_bits.specs.Row.{Cells, filled_row, same_row}

-- 1 for 0, and 0 for any other number
abbrev pub other_number : ℕ → ℕ
other_number n = if nat_eq n 0 then 1 else 0

-- the row whose cells are all 1 for that whose cells are all 0, and that for any other row
abbrev pub other_row : Cells → Cells
other_row r = filled_row r.index r.width (if same_row r (filled_row r.index r.width 0) then 1 else 0)

-- the other truth value; the word 0, or 1 in place of 0; the row of zeros, or of ones in its place
abbrev pub other_value : Value → Value
other_value (value.Bool b) = value.Bool (not b)
other_value (value.Word w) = value.Word (w.0, other_number w.1)
other_value (value.Row r) = value.Row (other_row r)
