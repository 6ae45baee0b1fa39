-- Which operations are folded: those on constants, and those of an operand with itself or with a constant, where the result
-- is a constant or one of the operands whatever the other operand is. Nothing else is rewritten.
use Rattle.std.specs.Prelude.{ℕ, ◌≡◌, ◌≡◌, Bool, true, false, ◌&&◌, ◌||◌, Option, None, Some, IsTrue, if◌then◌else◌}
use Rattle.civl_bits.specs.Value.{same_value}
use Rattle.civl_bits.specs.declared.value.Value.{Value}
use Rattle.civl_bits.specs.declared.value.Value.TheVariants as value
use Rattle.civl_tree.specs.declared.expr.Sort.{Sort}
use Rattle.civl_tree.specs.declared.expr.One.{One}
use Rattle.civl_tree.specs.declared.expr.Two.{Two}
use Rattle.civl_tree.specs.declared.expr.Two.TheVariants.{Add, Sub, Mul, BitAnd, BitOr, BitXor, Shl, Shr, Lt, Le, Eq, Ne, And, Or, Implies, Udiv, Urem, Slt, Sle, Sar}
use Rattle.civl_terms.specs.declared.foldings.folded.Folded.{Folded}
use Rattle.civl_terms.specs.declared.foldings.folded.Folded.TheVariants.{New, Constant, First, Second, Third}
use Rattle.civl_firing.specs.values.Operators.{one_value, two_value, get_value, set_value, fill_value, slice_value, widen_value, join_value}
use Rattle.civl_firing.specs.values.Values.{is_true}
use Rattle.civl_terms.specs.foldings.Constants.{is_bit, zero_in, is_zero, is_one, is_ones, is_least, is_greatest, is_past, is_narrow, zero_like, ones_like, is_filled, first_cell, is_identity}

-- what an operation is where a test holds, and else a node of its own
abbrev pub when : Bool → Folded → Folded
when test folded = if test then folded else New

abbrev pub flag : Bool → Folded
flag b = Constant (value.Bool b)

-- x op x, for x of this sort
abbrev pub with_itself : Two → Option Sort → Folded
with_itself Add sort = when (is_bit sort) (Constant (zero_in sort))
with_itself Sub sort = Constant (zero_in sort)
with_itself Mul sort = when (is_bit sort) First
with_itself BitAnd sort = First
with_itself BitOr sort = First
with_itself BitXor sort = Constant (zero_in sort)
with_itself Shl sort = when (is_bit sort) (Constant (zero_in sort))
with_itself Shr sort = Constant (zero_in sort)
with_itself Lt sort = flag false
with_itself Le sort = flag true
with_itself Eq sort = flag true
with_itself Ne sort = flag false
with_itself And sort = First
with_itself Or sort = First
with_itself Implies sort = flag true
with_itself Udiv sort = when (is_bit sort) (Constant (value.Word (1, 1)))
with_itself Urem sort = Constant (zero_in sort)
with_itself Slt sort = flag false
with_itself Sle sort = flag true
with_itself Sar sort = when (is_bit sort) First

-- c op x, for a constant c
abbrev pub after_constant : Two → Value → Folded
after_constant Add c = when (is_zero c) Second
after_constant Sub c = when (is_zero c && is_narrow c) Second
after_constant Mul c = if is_zero c then First else when (is_one c) Second
after_constant BitAnd c = if is_zero c then First else when (is_ones c) Second
after_constant BitOr c = if is_zero c then Second else when (is_ones c) First
after_constant BitXor c = when (is_zero c) Second
after_constant Shl c = when (is_zero c) First
after_constant Shr c = when (is_zero c) First
after_constant Lt c = when (is_ones c) (flag false)
after_constant Le c = when (is_zero c) (flag true)
after_constant Eq c = when (is_true c) Second
after_constant Ne c = when (same_value c (value.Bool false)) Second
after_constant And c = if is_true c then Second else First
after_constant Or c = if is_true c then First else Second
after_constant Implies c = if is_true c then Second else flag true
after_constant Udiv c = when (is_one c && is_narrow c) First
after_constant Urem c = when (is_zero c) First
after_constant Slt c = when (is_greatest c) (flag false)
after_constant Sle c = when (is_least c) (flag true)
after_constant Sar c = when (is_zero c || is_ones c) First

-- x op c, for a constant c
abbrev pub before_constant : Two → Value → Folded
before_constant Add c = when (is_zero c) First
before_constant Sub c = when (is_zero c) First
before_constant Mul c = if is_zero c then Second else when (is_one c) First
before_constant BitAnd c = if is_zero c then Second else when (is_ones c) First
before_constant BitOr c = if is_zero c then First else when (is_ones c) Second
before_constant BitXor c = when (is_zero c) First
before_constant Shl c = if is_zero c then First else when (is_past c) (Constant (zero_like c))
before_constant Shr c = if is_zero c then First else when (is_past c) (Constant (zero_like c))
before_constant Lt c = when (is_zero c) (flag false)
before_constant Le c = when (is_ones c) (flag true)
before_constant Eq c = when (is_true c) First
before_constant Ne c = when (same_value c (value.Bool false)) First
before_constant And c = if is_true c then First else Second
before_constant Or c = if is_true c then Second else First
before_constant Implies c = when (is_true c) Second
before_constant Udiv c = if is_zero c then Constant (ones_like c) else when (is_one c) First
before_constant Urem c = if is_zero c then First else when (is_one c) (Constant (zero_like c))
before_constant Slt c = when (is_least c) (flag false)
before_constant Sle c = when (is_greatest c) (flag true)
before_constant Sar c = when (is_zero c || is_narrow c) First

-- ---- the operations, by which of their operands are known to be constants, and which are the same

abbrev pub folded_one : One → Option Value → Folded
folded_one op None = New
folded_one op (Some a) = Constant (one_value op a)

-- of two operands of this sort
abbrev pub folded_two : Two → Option Sort → Option Value → Option Value → Bool → Folded
folded_two op sort None None same = when same (with_itself op sort)
folded_two op sort None (Some b) same = before_constant op b
folded_two op sort (Some a) None same = after_constant op a
folded_two op sort (Some a) (Some b) same = Constant (two_value op a b)

-- c ? a : b, where a is known where c is true, and b where c is false
abbrev pub folded_choice : Option Value → Option Value → Folded
folded_choice (Some a) (Some b) =
    if same_value a b then Constant a else when (is_true a && same_value b (value.Bool false)) First
folded_choice _ _ = New

-- what an operand is where the test, which it may be itself, has this value
abbrev pub known_where : Bool → Bool → Option Value → Option Value
known_where test is_test a = if is_test then Some (value.Bool test) else a

-- c ? a : b, where `a_test` and `b_test` say whether a and b are c, and `same` whether a and b are one
abbrev pub folded_pick : Option Value → Option Value → Option Value → Bool → Bool → Bool → Folded
folded_pick (Some c) a b a_test b_test same = if is_true c then Second else Third
folded_pick None a b a_test b_test same =
    if same then Second else folded_choice (known_where true a_test a) (known_where false b_test b)

abbrev pub folded_get : Option Value → Option Value → Folded
folded_get None at = New
folded_get (Some row) (Some at) = Constant (get_value row at)
folded_get (Some row) None = if is_filled row then Constant (first_cell row) else when (is_identity row) Second

-- where `same` says whether the index and the cell are one
abbrev pub folded_set : Option Value → Option Value → Option Value → Bool → Folded
folded_set None at cell same = New
folded_set (Some row) (Some at) (Some cell) same = Constant (set_value row at cell)
folded_set (Some row) None (Some cell) same = when (is_filled row && same_value (first_cell row) cell) First
folded_set (Some row) at None same = when (is_identity row && same) First

abbrev pub folded_fill : ℕ → Option Value → Folded
folded_fill index None = New
folded_fill index (Some cell) = Constant (fill_value index cell)

abbrev pub folded_slice : Option Value → ℕ → ℕ → Folded
folded_slice None high low = New
folded_slice (Some a) high low = Constant (slice_value a high low)

abbrev pub folded_widen : Option Value → ℕ → Folded
folded_widen None width = New
folded_widen (Some a) width = Constant (widen_value a width)

abbrev pub folded_join : Option Value → Option Value → Folded
folded_join (Some a) (Some b) = Constant (join_value a b)
folded_join _ _ = New

-- ---- what a folding says

-- the value of an operation at operands with these values: a node of its own says nothing
abbrev pub IsFolded : Folded → Value → Value → Value → Value → Type 0
IsFolded New result a b c = Unit {0}
IsFolded (Constant k) result a b c = result ≡ k
IsFolded First result a b c = result ≡ a
IsFolded Second result a b c = result ≡ b
IsFolded Third result a b c = result ≡ c

-- where an operand is known to be a constant, its value is this constant
abbrev pub IsKnown : Option Value → Value → Type 0
IsKnown None x = Unit {0}
IsKnown (Some k) x = x ≡ k

-- where two operands are known to be one, so are their values
abbrev pub AreSame : Bool → Value → Value → Type 0
AreSame same x y = IsTrue same → x ≡ y
