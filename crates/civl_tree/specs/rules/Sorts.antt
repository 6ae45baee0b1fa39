-- The sort of an expression in a scope, by the sorts of its parts: the operations on bit-vectors of SMT-LIB's theory
-- FixedSizeBitVectors, and those on arrays of its theory ArraysEx, over indices of so many bits. An expression whose
-- sorts don't fit has no sort.
use Rattle.std.specs.Prelude.{ℕ, ◌+◌, ◌-◌, Bool, true, false, ◌&&◌, nat_eq, nat_lt, nat_le, Option, None, Some, if◌then◌else◌}
use Rattle.civl_tree.specs.declared.expr.Sort.{Sort}
use Rattle.civl_tree.specs.declared.expr.Sort.TheVariants.{Bool as Truth, Word, Row}
use Rattle.civl_tree.specs.declared.expr.One.{One}
use Rattle.civl_tree.specs.declared.expr.One.TheVariants.{Not, Flip, Minus}
use Rattle.civl_tree.specs.declared.expr.Two.{Two}
use Rattle.civl_tree.specs.declared.expr.Two.TheVariants.{Add, Sub, Mul, BitAnd, BitOr, BitXor, Shl, Shr, Lt, Le, Eq, Ne, And, Or, Implies, Udiv, Urem, Slt, Sle, Sar}
use Rattle.civl_tree.specs.declared.expr.Expr.{Expr}
use Rattle.civl_tree.specs.declared.expr.Expr.TheOpen as expr
use Rattle.civl_tree.specs.declared.expr.Expr.TheFolds.{fold-Expr}
use Rattle.civl_tree.specs.rules.Scopes.{Scope, sort_in}

abbrev pub same_sort : Sort → Sort → Bool
same_sort Truth Truth = true
same_sort Truth (Word width) = false
same_sort Truth (Row index width) = false
same_sort (Word width) Truth = false
same_sort (Word width) (Word other) = nat_eq width other
same_sort (Word width) (Row index other) = false
same_sort (Row index width) Truth = false
same_sort (Row index width) (Word other) = false
same_sort (Row index width) (Row other cell) = nat_eq index other && nat_eq width cell

-- it is a bool
abbrev pub is_truth : Option Sort → Bool
is_truth None = false
is_truth (Some Truth) = true
is_truth (Some (Word width)) = false
is_truth (Some (Row index width)) = false

-- it is a word of this width
abbrev pub is_word : ℕ → Option Sort → Bool
is_word width None = false
is_word width (Some Truth) = false
is_word width (Some (Word other)) = nat_eq width other
is_word width (Some (Row index other)) = false

-- ---- what several operations share

-- the sort of a part that is to be a word
abbrev pub word_sort : Option Sort → Option Sort
word_sort None = None
word_sort (Some Truth) = None
word_sort (Some (Word width)) = Some (Word width)
word_sort (Some (Row index width)) = None

-- the one sort of two parts
abbrev pub common_sort : Option Sort → Option Sort → Option Sort
common_sort None second = None
common_sort (Some sort) None = None
common_sort (Some sort) (Some other) = if same_sort sort other then Some sort else None

-- the sort of two parts that are to be words of one width
abbrev pub words_sort : Option Sort → Option Sort → Option Sort
words_sort first second = word_sort (common_sort first second)

-- a bool, where the parts have this sort
abbrev pub truth_over : Option Sort → Option Sort
truth_over None = None
truth_over (Some sort) = Some Truth

-- the sort of two parts that are to be bools
abbrev pub truths_sort : Option Sort → Option Sort → Option Sort
truths_sort first second = if is_truth first && is_truth second then Some Truth else None

-- ---- the ranges of `slice`, `widen` and `join`

-- bits `high` down to `low` of a word of this width
abbrev pub slice_fits : ℕ → ℕ → ℕ → Bool
slice_fits width high low = nat_le low high && nat_lt high width

-- a word of this width made wider, at most to 32 bits
abbrev pub widen_fits : ℕ → ℕ → Bool
widen_fits width wider = nat_le width wider && nat_le wider 32

-- words of these widths side by side, at most 32 bits together
abbrev pub join_fits : ℕ → ℕ → Bool
join_fits width other = nat_le (width + other) 32

-- ---- the operations

abbrev pub one_sort : One → Option Sort → Option Sort
one_sort Not part = if is_truth part then Some Truth else None
one_sort Flip part = word_sort part
one_sort Minus part = word_sort part

abbrev pub two_sort : Two → Option Sort → Option Sort → Option Sort
two_sort Add first second = words_sort first second
two_sort Sub first second = words_sort first second
two_sort Mul first second = words_sort first second
two_sort BitAnd first second = words_sort first second
two_sort BitOr first second = words_sort first second
two_sort BitXor first second = words_sort first second
two_sort Shl first second = words_sort first second
two_sort Shr first second = words_sort first second
two_sort Lt first second = truth_over (words_sort first second)
two_sort Le first second = truth_over (words_sort first second)
two_sort Eq first second = truth_over (common_sort first second)
two_sort Ne first second = truth_over (common_sort first second)
two_sort And first second = truths_sort first second
two_sort Or first second = truths_sort first second
two_sort Implies first second = truths_sort first second
two_sort Udiv first second = words_sort first second
two_sort Urem first second = words_sort first second
two_sort Slt first second = truth_over (words_sort first second)
two_sort Sle first second = truth_over (words_sort first second)
two_sort Sar first second = words_sort first second

-- `(test ? first : second)`
abbrev pub pick_sort : Option Sort → Option Sort → Option Sort → Option Sort
pick_sort test first second = if is_truth test then common_sort first second else None

-- `get(row, at)`: the index is a word of the row's index bits
abbrev pub get_sort : Option Sort → Option Sort → Option Sort
get_sort None at = None
get_sort (Some Truth) at = None
get_sort (Some (Word width)) at = None
get_sort (Some (Row index width)) at = if is_word index at then Some (Word width) else None

-- `set(row, at, cell)`
abbrev pub set_sort : Option Sort → Option Sort → Option Sort → Option Sort
set_sort None at cell = None
set_sort (Some Truth) at cell = None
set_sort (Some (Word width)) at cell = None
set_sort (Some (Row index width)) at cell = if is_word index at && is_word width cell then Some (Row index width) else None

-- `fill(index, cell)`, whatever the index
abbrev pub fill_sort : ℕ → Option Sort → Option Sort
fill_sort index None = None
fill_sort index (Some Truth) = None
fill_sort index (Some (Word width)) = Some (Row index width)
fill_sort index (Some (Row other width)) = None

-- `slice(word, high, low)`, within the word
abbrev pub slice_sort : Option Sort → ℕ → ℕ → Option Sort
slice_sort None high low = None
slice_sort (Some Truth) high low = None
slice_sort (Some (Word width)) high low = if slice_fits width high low then Some (Word (high - low + 1)) else None
slice_sort (Some (Row index width)) high low = None

-- `widen(word, wider)`, to at most 32 bits
abbrev pub widen_sort : Option Sort → ℕ → Option Sort
widen_sort None wider = None
widen_sort (Some Truth) wider = None
widen_sort (Some (Word width)) wider = if widen_fits width wider then Some (Word wider) else None
widen_sort (Some (Row index width)) wider = None

-- a word of this width before another part, of at most 32 bits together
abbrev pub joined_sort : ℕ → Option Sort → Option Sort
joined_sort width None = None
joined_sort width (Some Truth) = None
joined_sort width (Some (Word other)) = if join_fits width other then Some (Word (width + other)) else None
joined_sort width (Some (Row index other)) = None

-- `join(first, second)`
abbrev pub join_sort : Option Sort → Option Sort → Option Sort
join_sort None second = None
join_sort (Some Truth) second = None
join_sort (Some (Word width)) second = joined_sort width second
join_sort (Some (Row index width)) second = None

-- one layer of an expression, with the sort of each part in its place
abbrev pub sort_step : Scope → expr.Expr-F (Option Sort) → Option Sort
sort_step scope (expr.Name name) = sort_in scope.names name
sort_step scope (expr.Literal value width) = Some (Word width)
sort_step scope expr.True = Some Truth
sort_step scope expr.False = Some Truth
sort_step scope expr.Done = Some Truth
sort_step scope (expr.Old name) = sort_in scope.olds name
sort_step scope expr.OldDone = Some Truth
sort_step scope (expr.One op part) = one_sort op part
sort_step scope (expr.Two op first second) = two_sort op first second
sort_step scope (expr.Pick test first second) = pick_sort test first second
sort_step scope (expr.Get row at) = get_sort row at
sort_step scope (expr.Set row at cell) = set_sort row at cell
sort_step scope (expr.Fill index cell) = fill_sort index cell
sort_step scope (expr.Slice word high low) = slice_sort word high low
sort_step scope (expr.Widen word wider) = widen_sort word wider
sort_step scope (expr.Join first second) = join_sort first second

-- the sort of an expression in a scope, where it has one
abbrev pub sort_of : Scope → Expr → Option Sort
sort_of scope = fold-Expr (Option Sort) (sort_step scope)
