-- Part of the claim: docs/CLAIM.md.
-- Values by their sorts: which values a sort has, and the zero of a sort. A bool is false or true, a word of
-- width w is a number below 2 ^ w, and a row is a list of words (SMT-LIB FixedSizeBitVectors, and ArraysEx over finite
-- indices).
use Rattle.std.specs.Prelude.{Bool, true, false, ◌&&◌, nat_eq, List, [], ◌∷◌, if◌then◌else◌, IsTrue, All}
use Rattle.civl_bits.specs.Row.{filled_row}
use Rattle.civl_bits.specs.Value.{IsValue}
use Rattle.civl_bits.specs.declared.value.Value.{Value}
use Rattle.civl_bits.specs.declared.value.Value.TheVariants as value
use Rattle.civl_tree.specs.declared.expr.Sort.{Sort}
use Rattle.civl_tree.specs.declared.expr.Sort.TheVariants as sort
use Rattle.civl_firing.specs.values.Operators.{nothing}
use Rattle.civl_tree.specs.rules.Exprs.{is_width, is_index}

-- whether a value is the bool true
abbrev pub is_true : Value → Bool
is_true (value.Bool a) = a
is_true _ = false

-- the zero of a sort: false, 0, or the row of 0
abbrev pub zero_of : Sort → Value
zero_of sort.Bool = value.Bool false
zero_of (sort.Word width) = if is_width width then value.Word (width, 0) else nothing
zero_of (sort.Row index width) = if is_index index && is_width width then value.Row (filled_row index width 0) else nothing

-- whether a value is of a sort
abbrev pub is_of : Value → Sort → Bool
is_of (value.Bool a) sort.Bool = true
is_of (value.Word a) (sort.Word width) = nat_eq a.0 width
is_of (value.Row r) (sort.Row index width) = nat_eq r.index index && nat_eq r.width width
is_of _ _ = false

-- whether each value is of the sort in its place, and there are as many of the one as of the other
abbrev pub are_of : List Value → List Sort → Bool
are_of [] [] = true
are_of (v ∷ vs) (s ∷ ss) = is_of v s && are_of vs ss
are_of _ _ = false

-- a value has a sort: it is of it, and the numbers of its words fit
abbrev pub HasSort : Value → Sort → Type 0
HasSort v s = IsValue v × IsTrue (is_of v s)

-- each has the sort in its place, and there are as many of the one as of the other
pub record HaveSorts (values : List Value) (sorts : List Sort) : Type 0 where
  pub fit : All IsValue values
  pub are : IsTrue (are_of values sorts)

-- the sort of a value
abbrev pub sort_of_value : Value → Sort
sort_of_value (value.Bool a) = sort.Bool
sort_of_value (value.Word a) = sort.Word a.0
sort_of_value (value.Row r) = sort.Row r.index r.width

-- a sort within the language's limits
abbrev pub is_sort : Sort → Bool
is_sort sort.Bool = true
is_sort (sort.Word width) = is_width width
is_sort (sort.Row index width) = is_index index && is_width width

-- the zero of such a sort has it
abbrev pub ZerosHaveTheirSorts : Type 0
ZerosHaveTheirSorts = (s : Sort) → IsTrue (is_sort s) → HasSort (zero_of s) s
