-- A worked graph: a row of 2 cells of 4 bits, with the number 3, an index, with the number 1, and whether the cell there is 5.
use Rattle.std.specs.Prelude.{ℕ, List, [], ◌∷◌}
use Rattle.civl_bits.specs.declared.value.Value.{Value}
use Rattle.civl_bits.specs.declared.value.Value.TheVariants as value
use Rattle.civl_tree.specs.declared.expr.Sort.{Sort}
use Rattle.civl_tree.specs.declared.expr.Sort.TheVariants as sort
use Rattle.civl_tree.specs.declared.expr.Two.TheVariants.{Eq}
use Rattle.civl_terms.specs.declared.node.Node.{Node}
use Rattle.civl_terms.specs.declared.node.Node.TheVariants.{Constant, Variable, Two as Twice, Get}
use Rattle.civl_blast.specs.declared.rows.flat.Cell.{Cell}

-- the bits of the index, those of a cell, and the row's sort
abbrev pub index_bits : ℕ
index_bits = 1

abbrev pub cell_bits : ℕ
cell_bits = 4

abbrev pub pair : Sort
pair = sort.Row index_bits cell_bits

abbrev pub example : List Node
example = Variable 3 pair ∷ Variable 1 (sort.Word index_bits) ∷ Get 0 1 ∷ Constant (value.Word (cell_bits, 5)) ∷ Twice Eq 2 3 ∷ []

-- its entries
abbrev pub example_cells : List Cell
example_cells = record { variable = 3; cell = 0; number = 4 } ∷ record { variable = 3; cell = 1; number = 5 } ∷ []

-- the array of 5 and 9
abbrev pub example_array : Value
example_array = value.Row (record { index = index_bits; width = cell_bits; cells = 5 ∷ 9 ∷ [] })
