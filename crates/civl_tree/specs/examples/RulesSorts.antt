-- The sort of an expression of each form, and of some whose sorts don't fit.
use Rattle.std.specs.Prelude.{ℕ, ◌≡◌, List, [], ◌∷◌, Some, None, codes}
use Rattle.civl_tree.specs.declared.expr.Expr.{Expr}
use Rattle.civl_tree.specs.declared.expr.Expr as expr
use Rattle.civl_tree.specs.declared.expr.Sort.{Sort}
use Rattle.civl_tree.specs.declared.expr.Sort.TheVariants.{Bool as Truth, Word, Row}
use Rattle.civl_tree.specs.declared.expr.One.TheVariants.{Not, Flip, Minus}
use Rattle.civl_tree.specs.declared.expr.Two.{Two}
use Rattle.civl_tree.specs.declared.expr.Two.TheVariants.{Add, Sub, Mul, BitAnd, BitOr, BitXor, Shl, Shr, Lt, Le, Eq, Ne, And, Or, Implies, Udiv, Urem, Slt, Sle, Sar}
use Rattle.civl_tree.specs.rules.Scopes.{Binding, Scope}
use Rattle.civl_tree.specs.rules.Sorts.{sort_of}
use Rattle.civl_tree.specs.examples.RulesFlag.{named, name}

abbrev pub bind : List ℕ → Sort → Binding
bind bytes sort = record { name = named bytes; sort = sort }

-- a bool, words of 8, 8, 4 and 3 bits, and rows of 8 and of 4 words of 8 bits; `old` may name x
abbrev pub scope : Scope
scope = record {
  names = bind (codes "b") Truth ∷ bind (codes "x") (Word 8) ∷ bind (codes "y") (Word 8) ∷ bind (codes "z") (Word 4)
      ∷ bind (codes "i") (Word 3) ∷ bind (codes "r") (Row 3 8) ∷ bind (codes "t") (Row 2 8) ∷ [];
  olds = bind (codes "x") (Word 8) ∷ [];
}

abbrev pub b : Expr
b = name (codes "b")

abbrev pub x : Expr
x = name (codes "x")

abbrev pub y : Expr
y = name (codes "y")

abbrev pub z : Expr
z = name (codes "z")

abbrev pub i : Expr
i = name (codes "i")

abbrev pub r : Expr
r = name (codes "r")

abbrev pub t : Expr
t = name (codes "t")

abbrev pub Sorted : Expr → Sort → Type 0
Sorted expression sort = sort_of scope expression ≡ Some sort

abbrev pub Unsorted : Expr → Type 0
Unsorted expression = sort_of scope expression ≡ None

abbrev pub SortsOfLeaves : Type 0
SortsOfLeaves =
    Sorted x (Word 8)
    × Sorted r (Row 3 8)
    × Sorted (expr.Literal 3 5) (Word 5)
    × Sorted expr.True Truth
    × Sorted expr.False Truth
    × Sorted expr.Done Truth
    × Sorted (expr.Old (named (codes "x"))) (Word 8)
    × Sorted expr.OldDone Truth
    × Unsorted (name (codes "a"))
    × Unsorted (expr.Old (named (codes "y")))
    × Sorted (expr.One Not b) Truth
    × Unsorted (expr.One Not x)
    × Sorted (expr.One Flip x) (Word 8)
    × Unsorted (expr.One Flip b)
    × Sorted (expr.One Minus z) (Word 4)
    × Unsorted (expr.One Minus r)

-- the operations of two words of one width that give such a word
abbrev pub SortsOfWord : Two → Type 0
SortsOfWord op = Sorted (expr.Two op x y) (Word 8) × Unsorted (expr.Two op x z) × Unsorted (expr.Two op b b) × Unsorted (expr.Two op r r) × Unsorted (expr.Two op x b)

-- those that give a bool
abbrev pub SortsOfOrder : Two → Type 0
SortsOfOrder op = Sorted (expr.Two op x y) Truth × Unsorted (expr.Two op x z) × Unsorted (expr.Two op b b) × Unsorted (expr.Two op r r)

-- equality of two of one sort
abbrev pub SortsOfEquality : Two → Type 0
SortsOfEquality op =
    Sorted (expr.Two op x y) Truth × Sorted (expr.Two op b b) Truth × Sorted (expr.Two op r r) Truth
    × Unsorted (expr.Two op x z) × Unsorted (expr.Two op r t) × Unsorted (expr.Two op b x) × Unsorted (expr.Two op (expr.One Not x) b)

-- the operations of two bools
abbrev pub SortsOfTruth : Two → Type 0
SortsOfTruth op = Sorted (expr.Two op b b) Truth × Unsorted (expr.Two op x b) × Unsorted (expr.Two op b x) × Unsorted (expr.Two op x y)

abbrev pub SortsOfTwo : Type 0
SortsOfTwo =
    SortsOfWord Add × SortsOfWord Sub × SortsOfWord Mul × SortsOfWord BitAnd × SortsOfWord BitOr × SortsOfWord BitXor × SortsOfWord Shl × SortsOfWord Shr
    × SortsOfWord Udiv × SortsOfWord Urem × SortsOfWord Sar
    × SortsOfOrder Lt × SortsOfOrder Le × SortsOfOrder Slt × SortsOfOrder Sle
    × SortsOfEquality Eq × SortsOfEquality Ne
    × SortsOfTruth And × SortsOfTruth Or × SortsOfTruth Implies

abbrev pub SortsOfForms : Type 0
SortsOfForms =
    Sorted (expr.Pick b x y) (Word 8)
    × Sorted (expr.Pick b r r) (Row 3 8)
    × Unsorted (expr.Pick x x y)
    × Unsorted (expr.Pick b x z)
    × Sorted (expr.Get r i) (Word 8)
    × Unsorted (expr.Get r z)
    × Unsorted (expr.Get t i)
    × Unsorted (expr.Get r b)
    × Unsorted (expr.Get x i)
    × Sorted (expr.Set r i x) (Row 3 8)
    × Unsorted (expr.Set r i z)
    × Unsorted (expr.Set r z x)
    × Unsorted (expr.Set x i x)
    × Sorted (expr.Fill 3 z) (Row 3 4)
    × Sorted (expr.Fill 9 x) (Row 9 8)
    × Unsorted (expr.Fill 3 b)
    × Unsorted (expr.Fill 3 r)
    × Sorted (expr.Slice x 7 0) (Word 8)
    × Sorted (expr.Slice x 3 3) (Word 1)
    × Sorted (expr.Slice x 6 2) (Word 5)
    × Unsorted (expr.Slice x 8 0)
    × Unsorted (expr.Slice x 2 3)
    × Unsorted (expr.Slice b 0 0)
    × Sorted (expr.Widen x 8) (Word 8)
    × Sorted (expr.Widen x 32) (Word 32)
    × Unsorted (expr.Widen x 7)
    × Unsorted (expr.Widen x 33)
    × Unsorted (expr.Widen r 8)
    × Sorted (expr.Join x z) (Word 12)
    × Sorted (expr.Join x (expr.Literal 0 24)) (Word 32)
    × Unsorted (expr.Join x (expr.Literal 0 25))
    × Unsorted (expr.Join x b)
    × Unsorted (expr.Join b x)
