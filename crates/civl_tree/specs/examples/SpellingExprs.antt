-- Sorts, operators and expressions of every form, with their tokens.
use Rattle.std.specs.Prelude.{◌≡◌, List, [], ◌∷◌, map}
use Prim.Native.String.{String}
use Rattle.civl_tree.specs.declared.expr.Sort.TheVariants as sort
use Rattle.civl_tree.specs.declared.expr.One.{One}
use Rattle.civl_tree.specs.declared.expr.One.TheVariants.{Not, Flip, Minus}
use Rattle.civl_tree.specs.declared.expr.Two.{Two}
use Rattle.civl_tree.specs.declared.expr.Two.TheVariants.{Add, Sub, Mul, BitAnd, BitOr, BitXor, Shl, Shr, Lt, Le, Eq, Ne, And, Or, Implies, Udiv, Urem, Slt, Sle, Sar}
use Rattle.civl_tree.specs.declared.expr.Expr.{Expr}
use Rattle.civl_tree.specs.declared.expr.Expr as expr
use Rattle.civl_tree.specs.Token.{Number}
use Rattle.civl_tree.specs.Spelling.{spell_sort, one_token, op_token, spell_expr}
use Rattle.civl_tree.specs.examples.SpellingWords.{named, name, word, sign}

abbrev pub SortsAreSpelled : Type 0
SortsAreSpelled = map spell_sort (sort.Bool ∷ sort.Word 8 ∷ sort.Row 3 16 ∷ []) ≡
    (word "bool" ∷ [])
    ∷ (word "word" ∷ sign "(" ∷ Number 8 ∷ sign ")" ∷ [])
    ∷ (word "row" ∷ sign "(" ∷ Number 3 ∷ sign "," ∷ Number 16 ∷ sign ")" ∷ []) ∷ []

-- the operators, in the order of the grammar
abbrev pub ones : List One
ones = Not ∷ Flip ∷ Minus ∷ []

abbrev pub twos : List Two
twos = Add ∷ Sub ∷ Mul ∷ BitAnd ∷ BitOr ∷ BitXor ∷ Shl ∷ Shr ∷ Lt ∷ Le ∷ Eq ∷ Ne ∷ And ∷ Or ∷ Implies ∷ Udiv ∷ Urem ∷ Slt ∷ Sle ∷ Sar ∷ []

abbrev pub OnesAreSpelled : Type 0
OnesAreSpelled = map one_token ones ≡ sign "!" ∷ sign "~" ∷ sign "-" ∷ []

abbrev pub TwosAreSpelled : Type 0
TwosAreSpelled = map op_token twos ≡
    sign "+" ∷ sign "-" ∷ sign "*" ∷ sign "&" ∷ sign "|" ∷ sign "^" ∷ sign "<<" ∷ sign ">>"
    ∷ sign "<" ∷ sign "<=" ∷ sign "==" ∷ sign "!=" ∷ sign "&&" ∷ sign "||" ∷ sign "=>"
    ∷ word "udiv" ∷ word "urem" ∷ word "slt" ∷ word "sle" ∷ word "sar" ∷ []

abbrev pub name_of : String → Expr
name_of text = expr.Name (named text)

-- one expression of each form, and two with parts in parts
abbrev pub exprs : List Expr
exprs =
    name_of "x"
    ∷ expr.Literal 255 8
    ∷ expr.True
    ∷ expr.False
    ∷ expr.Done
    ∷ expr.Old (named "x")
    ∷ expr.OldDone
    ∷ expr.One Not (name_of "b")
    ∷ expr.One Flip (name_of "x")
    ∷ expr.One Minus (name_of "x")
    ∷ expr.Two Sub (name_of "x") (expr.Literal 1 8)
    ∷ expr.Two Sle (name_of "x") (name_of "y")
    ∷ expr.Pick (name_of "b") (name_of "x") (name_of "y")
    ∷ expr.Get (name_of "r") (name_of "i")
    ∷ expr.Set (name_of "r") (name_of "i") (name_of "v")
    ∷ expr.Fill 3 (name_of "x")
    ∷ expr.Slice (name_of "x") 7 4
    ∷ expr.Widen (name_of "x") 16
    ∷ expr.Join (name_of "x") (name_of "y")
    ∷ expr.Two BitOr (name_of "pool") (expr.Two Shl (expr.Literal 1 4) (expr.Widen (name_of "t") 4))
    ∷ expr.Pick (expr.One Not expr.Done) (expr.Pick (name_of "a") (name_of "b") (name_of "c")) (expr.Get (name_of "r") (expr.Slice (name_of "x") 2 0))
    ∷ []

abbrev pub ExprsAreSpelled : Type 0
ExprsAreSpelled = map spell_expr exprs ≡
    (name "x" ∷ [])
    ∷ (Number 255 ∷ sign ":" ∷ Number 8 ∷ [])
    ∷ (word "true" ∷ [])
    ∷ (word "false" ∷ [])
    ∷ (word "done" ∷ [])
    ∷ (word "old" ∷ sign "(" ∷ name "x" ∷ sign ")" ∷ [])
    ∷ (word "old" ∷ sign "(" ∷ word "done" ∷ sign ")" ∷ [])
    ∷ (sign "(" ∷ sign "!" ∷ name "b" ∷ sign ")" ∷ [])
    ∷ (sign "(" ∷ sign "~" ∷ name "x" ∷ sign ")" ∷ [])
    ∷ (sign "(" ∷ sign "-" ∷ name "x" ∷ sign ")" ∷ [])
    ∷ (sign "(" ∷ name "x" ∷ sign "-" ∷ Number 1 ∷ sign ":" ∷ Number 8 ∷ sign ")" ∷ [])
    ∷ (sign "(" ∷ name "x" ∷ word "sle" ∷ name "y" ∷ sign ")" ∷ [])
    ∷ (sign "(" ∷ name "b" ∷ sign "?" ∷ name "x" ∷ sign ":" ∷ name "y" ∷ sign ")" ∷ [])
    ∷ (word "get" ∷ sign "(" ∷ name "r" ∷ sign "," ∷ name "i" ∷ sign ")" ∷ [])
    ∷ (word "set" ∷ sign "(" ∷ name "r" ∷ sign "," ∷ name "i" ∷ sign "," ∷ name "v" ∷ sign ")" ∷ [])
    ∷ (word "fill" ∷ sign "(" ∷ Number 3 ∷ sign "," ∷ name "x" ∷ sign ")" ∷ [])
    ∷ (word "slice" ∷ sign "(" ∷ name "x" ∷ sign "," ∷ Number 7 ∷ sign "," ∷ Number 4 ∷ sign ")" ∷ [])
    ∷ (word "widen" ∷ sign "(" ∷ name "x" ∷ sign "," ∷ Number 16 ∷ sign ")" ∷ [])
    ∷ (word "join" ∷ sign "(" ∷ name "x" ∷ sign "," ∷ name "y" ∷ sign ")" ∷ [])
    ∷ (sign "(" ∷ name "pool" ∷ sign "|" ∷ sign "(" ∷ Number 1 ∷ sign ":" ∷ Number 4 ∷ sign "<<" ∷ word "widen" ∷ sign "(" ∷ name "t" ∷ sign "," ∷ Number 4 ∷ sign ")" ∷ sign ")" ∷ sign ")" ∷ [])
    ∷ (sign "(" ∷ sign "(" ∷ sign "!" ∷ word "done" ∷ sign ")" ∷ sign "?" ∷ sign "(" ∷ name "a" ∷ sign "?" ∷ name "b" ∷ sign ":" ∷ name "c" ∷ sign ")" ∷ sign ":" ∷ word "get" ∷ sign "(" ∷ name "r" ∷ sign "," ∷ word "slice" ∷ sign "(" ∷ name "x" ∷ sign "," ∷ Number 2 ∷ sign "," ∷ Number 0 ∷ sign ")" ∷ sign ")" ∷ sign ")" ∷ []) ∷ []
