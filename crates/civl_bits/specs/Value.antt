-- Part of the claim: docs/CLAIM.md.
-- Values: which there are, and which are the same. Sorts are those of a program's text (civl_tree).
use Rattle.std.specs.Prelude.{Bool, false, not, if◌then◌else◌}
use Rattle.civl_bits.specs.Word.{IsWord, same_word}
use Rattle.civl_bits.specs.Row.{IsRow, same_row}
use Rattle.civl_bits.specs.declared.value.Value.{Value}
use Rattle.civl_bits.specs.declared.value.Value.TheVariants as value

abbrev pub IsValue : Value → Type 0
IsValue (value.Bool b) = Unit {0}
IsValue (value.Word a) = IsWord a.0 a.1
IsValue (value.Row r) = IsRow r

-- whether two values are of one sort and the same
abbrev pub same_value : Value → Value → Bool
same_value (value.Bool a) (value.Bool b) = if a then b else not b
same_value (value.Word a) (value.Word b) = same_word a b
same_value (value.Row r) (value.Row s) = same_row r s
same_value _ _ = false
