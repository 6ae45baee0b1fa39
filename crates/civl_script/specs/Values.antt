-- The values that a script writes: a bool, a word as its value and width, or the cells of a row.
use Rattle.std.specs.Prelude.{ℕ, ◌≡◌, Bool, true, false, List, [], ◌∷◌, map}
use Rattle.civl_bits.specs.Word.{IsWord}
use Rattle.civl_bits.specs.Row.{Cells, IsRow}
use Rattle.civl_bits.specs.Value.{IsValue}
use Rattle.civl_bits.specs.declared.value.Value.{Value}
use Rattle.civl_bits.specs.declared.value.Value.TheVariants as value
use Rattle.civl_tree.specs.declared.script.Entry.{Entry}
use Rattle.civl_tree.specs.declared.script.Literal.{Literal}
use Rattle.civl_tree.specs.declared.script.Literal.TheVariants.{Flag, Number}

-- the cells of a row of this width, as they are written
abbrev pub cells_of : ℕ → List ℕ → List Literal
cells_of width cells = map (λ cell. Number cell width) cells

-- how a value is written: whether as a row, and the literals
pub record IsWritten (entry : Entry) (row : Bool) (cells : List Literal) : Type 0 where
  pub row_is : entry.row ≡ row
  pub cells_are : entry.cells ≡ cells

-- this is what an entry writes
abbrev pub Writes : Entry → Value → Type 0
Writes entry (value.Bool flag) = IsWritten entry false (Flag flag ∷ [])
Writes entry (value.Word word) = IsWritten entry false (Number word.1 word.0 ∷ [])
Writes entry (value.Row row) = IsWritten entry true (cells_of row.width row.cells)

-- a value, and an entry writes it
pub record IsValueOf (entry : Entry) (value : Value) : Type 0 where
  pub is : IsValue value
  pub writes : Writes entry value

-- ---- the parts of this, as the code goes over them

-- this literal is the word
pub record IsWordOf (literal : Literal) (word : ℕ × ℕ) : Type 0 where
  pub is : IsWord word.0 word.1
  pub written : literal ≡ Number word.1 word.0

-- these literals are the cells of the row
pub record IsRowOf (cells : List Literal) (row : Cells) : Type 0 where
  pub is : IsRow row
  pub written : cells ≡ cells_of row.width row.cells

-- outside a row, these literals are the value
abbrev pub IsFlatOf : List Literal → Value → Type 0
IsFlatOf cells (value.Bool flag) = cells ≡ Flag flag ∷ []
IsFlatOf cells (value.Word word) = IsWord word.0 word.1 × (cells ≡ Number word.1 word.0 ∷ [])
IsFlatOf cells (value.Row row) = ⊥
