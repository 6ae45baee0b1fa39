-- The operators at telling values: expressions with no names, and their values.
use Rattle.std.specs.Prelude.{true, false, [], ◌∷◌, codes}
use Rattle.civl_tree.specs.declared.expr.Expr as expr
use Rattle.civl_tree.specs.declared.expr.One.TheVariants.{Not, Flip, Minus}
use Rattle.civl_tree.specs.declared.expr.Two.TheVariants.{Add, Sub, Mul, BitAnd, BitOr, BitXor, Shl, Shr, Lt, Le, Eq, Ne, And, Or, Implies, Udiv, Urem, Slt, Sle, Sar}
use Rattle.civl_firing.specs.values.Operators.{nothing}
use Rattle.civl_firing.specs.examples.Written.{word, bool, array, name, lit, nowhere, Evaluates}

-- sums, differences, products and negatives are modulo 2 ^ width
abbrev pub ArithmeticAtEdges : Type 0
ArithmeticAtEdges = Evaluates nowhere (
    (expr.Two Add (lit 1 8) (lit 2 8), word 8 3)
    ∷ (expr.Two Add (lit 200 8) (lit 100 8), word 8 44)
    ∷ (expr.Two Add (lit 1 1) (lit 1 1), word 1 0)
    ∷ (expr.Two Add (lit 4294967295 32) (lit 1 32), word 32 0)
    ∷ (expr.Two Sub (lit 5 8) (lit 3 8), word 8 2)
    ∷ (expr.Two Sub (lit 3 8) (lit 5 8), word 8 254)
    ∷ (expr.Two Sub (lit 0 32) (lit 4294967295 32), word 32 1)
    ∷ (expr.Two Mul (lit 20 8) (lit 13 8), word 8 4)
    ∷ (expr.Two Mul (lit 16 8) (lit 16 8), word 8 0)
    ∷ (expr.Two Mul (lit 65536 32) (lit 65536 32), word 32 0)
    ∷ (expr.Two Mul (lit 3 4) (lit 5 4), word 4 15)
    ∷ (expr.One Minus (lit 1 8), word 8 255)
    ∷ (expr.One Minus (lit 0 8), word 8 0)
    ∷ (expr.One Minus (lit 128 8), word 8 128)
    ∷ (expr.One Minus (lit 1 1), word 1 1)
    ∷ []
    )

-- each bit by itself
abbrev pub BitsAtEdges : Type 0
BitsAtEdges = Evaluates nowhere (
    (expr.Two BitAnd (lit 12 4) (lit 10 4), word 4 8)
    ∷ (expr.Two BitOr (lit 12 4) (lit 10 4), word 4 14)
    ∷ (expr.Two BitXor (lit 12 4) (lit 10 4), word 4 6)
    ∷ (expr.One Flip (lit 5 4), word 4 10)
    ∷ (expr.One Flip (lit 0 8), word 8 255)
    ∷ (expr.One Flip (lit 4294967295 32), word 32 0)
    ∷ []
    )

-- shifts by less than the width, by the width, and by more: `<<` and `>>` give 0, `sar` the top bit everywhere
abbrev pub ShiftsAtEdges : Type 0
ShiftsAtEdges = Evaluates nowhere (
    (expr.Two Shl (lit 3 8) (lit 7 8), word 8 128)
    ∷ (expr.Two Shl (lit 1 8) (lit 8 8), word 8 0)
    ∷ (expr.Two Shl (lit 1 8) (lit 200 8), word 8 0)
    ∷ (expr.Two Shl (lit 1 8) (lit 0 8), word 8 1)
    ∷ (expr.Two Shr (lit 128 8) (lit 7 8), word 8 1)
    ∷ (expr.Two Shr (lit 255 8) (lit 8 8), word 8 0)
    ∷ (expr.Two Shr (lit 255 8) (lit 255 8), word 8 0)
    ∷ (expr.Two Sar (lit 128 8) (lit 1 8), word 8 192)
    ∷ (expr.Two Sar (lit 128 8) (lit 7 8), word 8 255)
    ∷ (expr.Two Sar (lit 128 8) (lit 8 8), word 8 255)
    ∷ (expr.Two Sar (lit 128 8) (lit 200 8), word 8 255)
    ∷ (expr.Two Sar (lit 127 8) (lit 200 8), word 8 0)
    ∷ (expr.Two Sar (lit 64 8) (lit 1 8), word 8 32)
    ∷ (expr.Two Sar (lit 1 1) (lit 1 1), word 1 1)
    ∷ []
    )

-- quotients round down; by 0 the quotient is all ones and the remainder the first operand
abbrev pub DivisionByZero : Type 0
DivisionByZero = Evaluates nowhere (
    (expr.Two Udiv (lit 7 8) (lit 2 8), word 8 3)
    ∷ (expr.Two Udiv (lit 7 8) (lit 0 8), word 8 255)
    ∷ (expr.Two Udiv (lit 0 8) (lit 0 8), word 8 255)
    ∷ (expr.Two Udiv (lit 255 8) (lit 1 8), word 8 255)
    ∷ (expr.Two Urem (lit 7 8) (lit 2 8), word 8 1)
    ∷ (expr.Two Urem (lit 7 8) (lit 0 8), word 8 7)
    ∷ (expr.Two Urem (lit 7 8) (lit 8 8), word 8 7)
    ∷ (expr.Two Urem (lit 255 8) (lit 255 8), word 8 0)
    ∷ []
    )

-- `<` and `<=` are unsigned, `slt` and `sle` by two's complement: they part at the top bit
abbrev pub OrdersAtTheTopBit : Type 0
OrdersAtTheTopBit = Evaluates nowhere (
    (expr.Two Lt (lit 1 8) (lit 2 8), bool true)
    ∷ (expr.Two Lt (lit 2 8) (lit 2 8), bool false)
    ∷ (expr.Two Lt (lit 255 8) (lit 0 8), bool false)
    ∷ (expr.Two Lt (lit 127 8) (lit 128 8), bool true)
    ∷ (expr.Two Le (lit 2 8) (lit 2 8), bool true)
    ∷ (expr.Two Le (lit 3 8) (lit 2 8), bool false)
    ∷ (expr.Two Le (lit 127 8) (lit 128 8), bool true)
    ∷ (expr.Two Slt (lit 1 8) (lit 2 8), bool true)
    ∷ (expr.Two Slt (lit 2 8) (lit 2 8), bool false)
    ∷ (expr.Two Slt (lit 255 8) (lit 0 8), bool true)
    ∷ (expr.Two Slt (lit 0 8) (lit 255 8), bool false)
    ∷ (expr.Two Slt (lit 128 8) (lit 127 8), bool true)
    ∷ (expr.Two Slt (lit 127 8) (lit 128 8), bool false)
    ∷ (expr.Two Slt (lit 128 8) (lit 255 8), bool true)
    ∷ (expr.Two Sle (lit 5 8) (lit 5 8), bool true)
    ∷ (expr.Two Sle (lit 128 8) (lit 127 8), bool true)
    ∷ (expr.Two Sle (lit 127 8) (lit 128 8), bool false)
    ∷ (expr.Two Sle (lit 255 8) (lit 0 8), bool true)
    ∷ []
    )

-- equality of bools, words and rows
abbrev pub EqualityOfEachSort : Type 0
EqualityOfEachSort = Evaluates nowhere (
    (expr.Two Eq (lit 3 8) (lit 3 8), bool true)
    ∷ (expr.Two Eq (lit 3 8) (lit 4 8), bool false)
    ∷ (expr.Two Ne (lit 3 8) (lit 3 8), bool false)
    ∷ (expr.Two Ne (lit 3 8) (lit 4 8), bool true)
    ∷ (expr.Two Eq expr.True expr.True, bool true)
    ∷ (expr.Two Eq expr.False expr.False, bool true)
    ∷ (expr.Two Eq expr.True expr.False, bool false)
    ∷ (expr.Two Ne expr.False expr.True, bool true)
    ∷ (expr.Two Eq (expr.Fill 2 (lit 0 8)) (expr.Set (expr.Fill 2 (lit 0 8)) (lit 1 2) (lit 7 8)), bool false)
    ∷ (expr.Two Ne (expr.Fill 2 (lit 0 8)) (expr.Set (expr.Fill 2 (lit 0 8)) (lit 1 2) (lit 7 8)), bool true)
    ∷ (expr.Two Eq (expr.Fill 2 (lit 0 8)) (expr.Set (expr.Set (expr.Fill 2 (lit 0 8)) (lit 1 2) (lit 7 8)) (lit 1 2) (lit 0 8)), bool true)
    ∷ (expr.Two Eq (expr.Set (expr.Set (expr.Fill 2 (lit 0 8)) (lit 1 2) (lit 7 8)) (lit 3 2) (lit 1 8)) (expr.Set (expr.Set (expr.Fill 2 (lit 0 8)) (lit 1 2) (lit 7 8)) (lit 2 2) (lit 1 8)), bool false)
    ∷ []
    )

-- not, and, or, implies, and the choice between two
abbrev pub Connectives : Type 0
Connectives = Evaluates nowhere (
    (expr.One Not expr.True, bool false)
    ∷ (expr.One Not expr.False, bool true)
    ∷ (expr.Two And expr.True expr.True, bool true)
    ∷ (expr.Two And expr.True expr.False, bool false)
    ∷ (expr.Two And expr.False expr.True, bool false)
    ∷ (expr.Two And expr.False expr.False, bool false)
    ∷ (expr.Two Or expr.True expr.True, bool true)
    ∷ (expr.Two Or expr.True expr.False, bool true)
    ∷ (expr.Two Or expr.False expr.True, bool true)
    ∷ (expr.Two Or expr.False expr.False, bool false)
    ∷ (expr.Two Implies expr.True expr.True, bool true)
    ∷ (expr.Two Implies expr.True expr.False, bool false)
    ∷ (expr.Two Implies expr.False expr.True, bool true)
    ∷ (expr.Two Implies expr.False expr.False, bool true)
    ∷ (expr.Pick expr.True (lit 1 8) (lit 2 8), word 8 1)
    ∷ (expr.Pick expr.False (lit 1 8) (lit 2 8), word 8 2)
    ∷ (expr.Pick expr.False expr.True expr.False, bool false)
    ∷ []
    )

-- cells that were set, others, filled rows, and the last cell
abbrev pub RowsReadAndWrite : Type 0
RowsReadAndWrite = Evaluates nowhere (
    (expr.Get (expr.Set (expr.Fill 2 (lit 0 8)) (lit 1 2) (lit 7 8)) (lit 1 2), word 8 7)
    ∷ (expr.Get (expr.Set (expr.Fill 2 (lit 0 8)) (lit 1 2) (lit 7 8)) (lit 0 2), word 8 0)
    ∷ (expr.Get (expr.Set (expr.Fill 2 (lit 0 8)) (lit 1 2) (lit 7 8)) (lit 2 2), word 8 0)
    ∷ (expr.Fill 1 (lit 9 4), array 1 4 (9 ∷ 9 ∷ []))
    ∷ (expr.Set (expr.Fill 1 (lit 9 4)) (lit 1 1) (lit 5 4), array 1 4 (9 ∷ 5 ∷ []))
    ∷ (expr.Set (expr.Set (expr.Fill 1 (lit 9 4)) (lit 1 1) (lit 5 4)) (lit 0 1) (lit 0 4), array 1 4 (0 ∷ 5 ∷ []))
    ∷ (expr.Set (expr.Set (expr.Fill 1 (lit 9 4)) (lit 1 1) (lit 5 4)) (lit 1 1) (lit 6 4), array 1 4 (9 ∷ 6 ∷ []))
    ∷ (expr.Get (expr.Set (expr.Fill 2 (lit 0 8)) (lit 3 2) (lit 255 8)) (lit 3 2), word 8 255)
    ∷ (expr.Set (expr.Fill 2 (lit 0 8)) (lit 1 2) (lit 7 8), array 2 8 (0 ∷ 7 ∷ 0 ∷ 0 ∷ []))
    ∷ (expr.Get (expr.Fill 6 (lit 1 32)) (lit 63 6), word 32 1)
    ∷ []
    )

-- the bits 5 to 2, one bit, all bits; zeros above; the first word above the second
abbrev pub PartsOfWords : Type 0
PartsOfWords = Evaluates nowhere (
    (expr.Slice (lit 182 8) 5 2, word 4 13)
    ∷ (expr.Slice (lit 182 8) 7 7, word 1 1)
    ∷ (expr.Slice (lit 182 8) 0 0, word 1 0)
    ∷ (expr.Slice (lit 182 8) 7 0, word 8 182)
    ∷ (expr.Widen (lit 5 3) 8, word 8 5)
    ∷ (expr.Widen (lit 5 3) 3, word 3 5)
    ∷ (expr.Widen (lit 5 3) 32, word 32 5)
    ∷ (expr.Join (lit 5 3) (lit 2 2), word 5 22)
    ∷ (expr.Join (lit 2 2) (lit 5 3), word 5 21)
    ∷ (expr.Join (lit 65535 16) (lit 1 16), word 32 4294901761)
    ∷ []
    )

-- `value:width`, at both ends
abbrev pub Literals : Type 0
Literals = Evaluates nowhere (
    (lit 0 1, word 1 0)
    ∷ (lit 1 1, word 1 1)
    ∷ (lit 255 8, word 8 255)
    ∷ (lit 4294967295 32, word 32 4294967295)
    ∷ (expr.True, bool true)
    ∷ (expr.False, bool false)
    ∷ []
    )

-- where the sorts don't fit, or a number leaves its range, the value is the default; a name that isn't there has it too
abbrev pub MisfitsAreNothing : Type 0
MisfitsAreNothing = Evaluates nowhere (
    (lit 256 8, nothing)
    ∷ (lit 0 0, nothing)
    ∷ (lit 0 33, nothing)
    ∷ (name (codes "x"), nothing)
    ∷ (expr.Two Add (lit 1 8) (lit 1 9), nothing)
    ∷ (expr.Two Lt (lit 1 8) (lit 2 9), nothing)
    ∷ (expr.Two Add expr.True (lit 1 8), nothing)
    ∷ (expr.Two Implies (lit 0 1) expr.True, nothing)
    ∷ (expr.Two Eq (lit 1 8) (lit 1 9), nothing)
    ∷ (expr.One Not (lit 0 1), nothing)
    ∷ (expr.One Minus expr.True, nothing)
    ∷ (expr.Pick (lit 1 1) expr.True expr.True, nothing)
    ∷ (expr.Get (expr.Fill 1 (lit 1 8)) (lit 1 2), nothing)
    ∷ (expr.Set (expr.Fill 1 (lit 1 8)) (lit 1 1) (lit 1 9), nothing)
    ∷ (expr.Fill 7 (lit 1 8), nothing)
    ∷ (expr.Fill 0 (lit 1 8), nothing)
    ∷ (expr.Slice (lit 1 8) 8 0, nothing)
    ∷ (expr.Slice (lit 1 8) 0 1, nothing)
    ∷ (expr.Widen (lit 1 8) 7, nothing)
    ∷ (expr.Widen (lit 1 8) 33, nothing)
    ∷ (expr.Join (lit 1 17) (lit 1 16), nothing)
    ∷ []
    )
