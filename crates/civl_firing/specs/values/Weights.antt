-- Weights: the size of the circuit of an operation, by the numbers of bits of its operands. A ripple-carry adder has two
-- gates a bit, a product an adder for each bit, a shift a row of choices for each bit of the amount; a read or a write of a
-- row goes over its cells.
use Rattle.std.specs.Prelude.{ℕ, ◌+◌, ◌*◌, ◌^◌, Option, None, Some}
use Rattle.civl_tree.specs.declared.expr.Sort.{Sort}
use Rattle.civl_tree.specs.declared.expr.Sort.TheVariants.{Row}
use Rattle.civl_tree.specs.declared.expr.One.{One}
use Rattle.civl_tree.specs.declared.expr.One.TheVariants.{Not, Flip, Minus}
use Rattle.civl_tree.specs.declared.expr.Two.{Two}
use Rattle.civl_tree.specs.declared.expr.Two.TheVariants.{Add, Sub, Mul, BitAnd, BitOr, BitXor, Shl, Shr, Lt, Le, Eq, Ne, And, Or, Implies, Udiv, Urem, Slt, Sle, Sar}
use Rattle.civl_tree.specs.declared.expr.Expr.{Expr}
use Rattle.civl_tree.specs.declared.expr.Expr.TheFolds.{para-Expr}
use Rattle.civl_tree.specs.declared.expr.Expr.TheOpen as expr
use Rattle.civl_tree.specs.rules.Scopes.{Scope}
use Rattle.civl_tree.specs.rules.Sorts.{sort_of}
use Rattle.civl_tree.specs.rules.StoreSize.{bits_of}

-- the bits of an operand: 1 of a bool, the width of a word, the bits of all cells of a row; nothing where it has no sort
abbrev pub bits_in : Option Sort → ℕ
bits_in None = 0
bits_in (Some sort) = bits_of sort

-- ---- the own weight of an operation whose first operand has so many bits

abbrev pub one_weight : One → ℕ → ℕ
one_weight Not bits = 1
one_weight Flip bits = bits
one_weight Minus bits = 2 * bits

abbrev pub two_weight : Two → ℕ → ℕ
two_weight Add bits = 2 * bits
two_weight Sub bits = 2 * bits
two_weight Mul bits = 2 * bits * bits
two_weight BitAnd bits = bits
two_weight BitOr bits = bits
two_weight BitXor bits = bits
two_weight Shl bits = 6 * bits
two_weight Shr bits = 6 * bits
two_weight Lt bits = 2 * bits
two_weight Le bits = 2 * bits
two_weight Eq bits = bits
two_weight Ne bits = bits
two_weight And bits = 1
two_weight Or bits = 1
two_weight Implies bits = 1
two_weight Udiv bits = 4 * bits * bits
two_weight Urem bits = 4 * bits * bits
two_weight Slt bits = 2 * bits
two_weight Sle bits = 2 * bits
two_weight Sar bits = 6 * bits

-- `(c ? a : b)`, where a has so many bits
abbrev pub pick_weight : ℕ → ℕ
pick_weight bits = bits

-- `get(r, i)`, where the cells of r have so many bits together
abbrev pub get_weight : ℕ → ℕ
get_weight bits = bits

-- `set(r, i, v)`: each cell is chosen anew, and its index compared
abbrev pub set_weight : Option Sort → ℕ
set_weight (Some (Row index width)) = (width + index) * 2 ^ index
set_weight _ = 0

-- `fill`, `slice`, `widen` and `join` only move bits
abbrev pub move_weight : ℕ
move_weight = 1

-- a name, a literal, `true`, `false`, `done`, `old(..)`
abbrev pub leaf_weight : ℕ
leaf_weight = 1

-- ---- the weight of an expression: its own weight, and that of its parts

-- one layer of an expression, where each part stands with its weight
abbrev pub weight_step : Scope → expr.Expr-F (Expr × ℕ) → ℕ
weight_step scope (expr.Name name) = leaf_weight
weight_step scope (expr.Literal number width) = leaf_weight
weight_step scope expr.True = leaf_weight
weight_step scope expr.False = leaf_weight
weight_step scope expr.Done = leaf_weight
weight_step scope (expr.Old name) = leaf_weight
weight_step scope expr.OldDone = leaf_weight
weight_step scope (expr.One op a) = one_weight op (bits_in (sort_of scope a.0)) + a.1
weight_step scope (expr.Two op a b) = two_weight op (bits_in (sort_of scope a.0)) + a.1 + b.1
weight_step scope (expr.Pick test a b) = pick_weight (bits_in (sort_of scope a.0)) + test.1 + a.1 + b.1
weight_step scope (expr.Get row at) = get_weight (bits_in (sort_of scope row.0)) + row.1 + at.1
weight_step scope (expr.Set row at cell) = set_weight (sort_of scope row.0) + row.1 + at.1 + cell.1
weight_step scope (expr.Fill index cell) = move_weight + cell.1
weight_step scope (expr.Slice a high low) = move_weight + a.1
weight_step scope (expr.Widen a width) = move_weight + a.1
weight_step scope (expr.Join a b) = move_weight + a.1 + b.1

-- the weight of an expression, where the names have these sorts
abbrev pub weight_of : Scope → Expr → ℕ
weight_of scope = para-Expr ℕ (weight_step scope)
