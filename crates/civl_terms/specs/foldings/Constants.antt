-- The constants at which an operation is a constant or one of its operands.
use Rattle.std.specs.Prelude.{ℕ, ◌-◌, ◌+◌, ◌^◌, Bool, true, false, ◌&&◌, nat_eq, nat_le, List, [], ◌∷◌, Option, None, Some}
use Rattle.civl_bits.specs.Row.{same_row, filled_row, cell_at}
use Rattle.civl_bits.specs.declared.value.Value.{Value}
use Rattle.civl_bits.specs.declared.value.Value.TheVariants as value
use Rattle.civl_tree.specs.declared.expr.Sort.{Sort}
use Rattle.civl_tree.specs.declared.expr.Sort.TheVariants as sort
use Rattle.civl_firing.specs.values.Operators.{nothing}
use Rattle.civl_firing.specs.values.Values.{zero_of}

-- words of one bit
abbrev pub is_bit : Option Sort → Bool
is_bit (Some (sort.Word width)) = nat_eq width 1
is_bit _ = false

-- the zero of a sort
abbrev pub zero_in : Option Sort → Value
zero_in None = nothing
zero_in (Some s) = zero_of s

-- the word 0
abbrev pub is_zero : Value → Bool
is_zero (value.Word a) = nat_eq a.1 0
is_zero _ = false

-- the word 1
abbrev pub is_one : Value → Bool
is_one (value.Word a) = nat_eq a.1 1
is_one _ = false

-- the word all whose bits are 1, the greatest
abbrev pub is_ones : Value → Bool
is_ones (value.Word a) = nat_eq a.1 (2 ^ a.0 - 1)
is_ones _ = false

-- the least word by two's complement
abbrev pub is_least : Value → Bool
is_least (value.Word a) = nat_eq a.1 (2 ^ (a.0 - 1))
is_least _ = false

-- the greatest word by two's complement
abbrev pub is_greatest : Value → Bool
is_greatest (value.Word a) = nat_eq a.1 (2 ^ (a.0 - 1) - 1)
is_greatest _ = false

-- an amount that moves every bit out
abbrev pub is_past : Value → Bool
is_past (value.Word a) = nat_le a.0 a.1
is_past _ = false

-- a word of one bit
abbrev pub is_narrow : Value → Bool
is_narrow (value.Word a) = nat_eq a.0 1
is_narrow _ = false

-- the word 0 as wide as this one, and the word of this width all whose bits are 1
abbrev pub zero_like : Value → Value
zero_like (value.Word a) = value.Word (a.0, 0)
zero_like _ = nothing

abbrev pub ones_like : Value → Value
ones_like (value.Word a) = value.Word (a.0, 2 ^ a.0 - 1)
ones_like _ = nothing

-- a row all whose cells are one word
abbrev pub is_filled : Value → Bool
is_filled (value.Row r) = same_row r (filled_row r.index r.width (cell_at r 0))
is_filled _ = false

-- the first cell of a row
abbrev pub first_cell : Value → Value
first_cell (value.Row r) = value.Word (r.width, cell_at r 0)
first_cell _ = nothing

-- whether these are the numbers from this one on, in order
abbrev pub counts_from : ℕ → List ℕ → Bool
counts_from n [] = true
counts_from n (c ∷ cs) = nat_eq c n && counts_from (n + 1) cs

-- the row whose cell at each index is this index
abbrev pub is_identity : Value → Bool
is_identity (value.Row r) = nat_eq r.index r.width && counts_from 0 r.cells
is_identity _ = false
