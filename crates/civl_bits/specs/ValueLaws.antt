-- The tests of equality are equality.
use Rattle.std.specs.Prelude.{◌≡◌, ◌↔◌, ℕ, IsTrue}
use Rattle.civl_bits.specs.Word.{same_word}
use Rattle.civl_bits.specs.Row.{Cells, same_row}
use Rattle.civl_bits.specs.Value.{same_value}
use Rattle.civl_bits.specs.declared.value.Value.{Value}

abbrev pub SameWordIsEquality : Type 0
SameWordIsEquality = (a b : ℕ × ℕ) → IsTrue (same_word a b) ↔ (a ≡ b)

abbrev pub SameRowIsEquality : Type 0
SameRowIsEquality = (r s : Cells) → IsTrue (same_row r s) ↔ (r ≡ s)

abbrev pub SameValueIsEquality : Type 0
SameValueIsEquality = (a b : Value) → IsTrue (same_value a b) ↔ (a ≡ b)
