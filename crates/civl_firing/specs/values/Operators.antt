-- Part of the claim: docs/CLAIM.md.
-- The values of the operators of expressions. Each is total: where the sorts of the operands don't fit, its value is
-- `nothing`. The operations are those of SMT-LIB's theories FixedSizeBitVectors and ArraysEx and its Core.
use Rattle.std.specs.Prelude.{ℕ, ◌+◌, ◌-◌, ◌^◌, Bool, false, not, ◌&&◌, ◌||◌, nat_eq, nat_lt, nat_le, int_lt, int_le, if◌then◌else◌}
use Rattle.civl_bits.specs.Word.{sum_at, difference_at, product_at, negative_at, quotient_at, remainder_at, bitwise_and_at, bitwise_or_at, bitwise_xor_at, complement_at, left_shift_at, right_shift_at, arithmetic_right_shift_at, signed_at, slice_of, concatenation_at}
use Rattle.civl_bits.specs.Row.{cell_at, row_with, filled_row}
use Rattle.civl_bits.specs.Value.{same_value}
use Rattle.civl_bits.specs.declared.value.Value.{Value}
use Rattle.civl_bits.specs.declared.value.Value.TheVariants as value
use Rattle.civl_tree.specs.declared.expr.One.{One}
use Rattle.civl_tree.specs.declared.expr.One.TheVariants.{Not, Flip, Minus}
use Rattle.civl_tree.specs.declared.expr.Two.{Two}
use Rattle.civl_tree.specs.rules.Exprs.{is_width, is_index}
use Rattle.civl_tree.specs.declared.expr.Two.TheVariants.{Add, Sub, Mul, BitAnd, BitOr, BitXor, Shl, Shr, Lt, Le, Eq, Ne, And, Or, Implies, Udiv, Urem, Slt, Sle, Sar}

-- the value that stands where sorts don't fit
abbrev pub nothing : Value
nothing = value.Bool false

-- the word of this width with this number, where it fits
abbrev pub literal_value : ℕ → ℕ → Value
literal_value number width = if is_width width && nat_lt number (2 ^ width) then value.Word (width, number) else nothing

abbrev pub not_value : Value → Value
not_value (value.Bool a) = value.Bool (not a)
not_value _ = nothing

-- an operation f on the width and the number of a word
abbrev pub on_word : (ℕ → ℕ → ℕ) → Value → Value
on_word f (value.Word a) = value.Word (a.0, f a.0 a.1)
on_word f _ = nothing

-- `!`, `~` and `-`
abbrev pub one_value : One → Value → Value
one_value Not a = not_value a
one_value Flip a = on_word complement_at a
one_value Minus a = on_word negative_at a

-- an operation f on two words of one width
abbrev pub on_words : (ℕ → ℕ → ℕ → ℕ) → Value → Value → Value
on_words f (value.Word a) (value.Word b) = if nat_eq a.0 b.0 then value.Word (a.0, f a.0 a.1 b.1) else nothing
on_words f _ _ = nothing

-- a test f of two words of one width
abbrev pub test_words : (ℕ → ℕ → ℕ → Bool) → Value → Value → Value
test_words f (value.Word a) (value.Word b) = if nat_eq a.0 b.0 then value.Bool (f a.0 a.1 b.1) else nothing
test_words f _ _ = nothing

-- an operation f on two bools
abbrev pub on_bools : (Bool → Bool → Bool) → Value → Value → Value
on_bools f (value.Bool a) (value.Bool b) = value.Bool (f a b)
on_bools f _ _ = nothing

-- the order of numbers, and the order by two's complement (bvult, bvule, bvslt, bvsle)
abbrev pub is_less : ℕ → ℕ → ℕ → Bool
is_less w a b = nat_lt a b

abbrev pub is_less_or_same : ℕ → ℕ → ℕ → Bool
is_less_or_same w a b = nat_le a b

abbrev pub is_signed_less : ℕ → ℕ → ℕ → Bool
is_signed_less w a b = int_lt (signed_at w a) (signed_at w b)

abbrev pub is_signed_less_or_same : ℕ → ℕ → ℕ → Bool
is_signed_less_or_same w a b = int_le (signed_at w a) (signed_at w b)

abbrev pub implies : Bool → Bool → Bool
implies a b = not a || b

-- the operations with two operands; two values of different sorts aren't equal
abbrev pub two_value : Two → Value → Value → Value
two_value Add a b = on_words sum_at a b
two_value Sub a b = on_words difference_at a b
two_value Mul a b = on_words product_at a b
two_value BitAnd a b = on_words bitwise_and_at a b
two_value BitOr a b = on_words bitwise_or_at a b
two_value BitXor a b = on_words bitwise_xor_at a b
two_value Shl a b = on_words left_shift_at a b
two_value Shr a b = on_words right_shift_at a b
two_value Lt a b = test_words is_less a b
two_value Le a b = test_words is_less_or_same a b
two_value Eq a b = value.Bool (same_value a b)
two_value Ne a b = value.Bool (not (same_value a b))
two_value And a b = on_bools (λ x y. x && y) a b
two_value Or a b = on_bools (λ x y. x || y) a b
two_value Implies a b = on_bools implies a b
two_value Udiv a b = on_words quotient_at a b
two_value Urem a b = on_words remainder_at a b
two_value Slt a b = test_words is_signed_less a b
two_value Sle a b = test_words is_signed_less_or_same a b
two_value Sar a b = on_words arithmetic_right_shift_at a b

-- `c ? a : b`: a where c, else b
abbrev pub pick_value : Value → Value → Value → Value
pick_value (value.Bool c) a b = if c then a else b
pick_value _ a b = nothing

-- the row's cell at an index (select)
abbrev pub get_value : Value → Value → Value
get_value (value.Row r) (value.Word i) = if nat_eq i.0 r.index then value.Word (r.width, cell_at r i.1) else nothing
get_value _ _ = nothing

-- the row with another cell at an index (store)
abbrev pub set_value : Value → Value → Value → Value
set_value (value.Row r) (value.Word i) (value.Word v) =
    if nat_eq i.0 r.index && nat_eq v.0 r.width then value.Row (row_with r i.1 v.1) else nothing
set_value _ _ _ = nothing

-- the row whose cells are all one word (the constant array)
abbrev pub fill_value : ℕ → Value → Value
fill_value index (value.Word v) = if is_index index then value.Row (filled_row index v.0 v.1) else nothing
fill_value index _ = nothing

-- the bits high down to low (extract)
abbrev pub slice_value : Value → ℕ → ℕ → Value
slice_value (value.Word a) high low =
    if nat_le low high && nat_lt high a.0 then value.Word (high - low + 1, slice_of a.1 high low) else nothing
slice_value _ high low = nothing

-- zeros above, up to a width (zero_extend)
abbrev pub widen_value : Value → ℕ → Value
widen_value (value.Word a) width = if nat_le a.0 width && nat_le width 32 then value.Word (width, a.1) else nothing
widen_value _ width = nothing

-- the first word's bits above the second's (concat)
abbrev pub join_value : Value → Value → Value
join_value (value.Word a) (value.Word b) =
    if nat_le (a.0 + b.0) 32 then value.Word (a.0 + b.0, concatenation_at b.0 a.1 b.1) else nothing
join_value _ _ = nothing
