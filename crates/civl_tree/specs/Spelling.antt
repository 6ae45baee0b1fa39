-- Part of the claim: docs/CLAIM.md.
-- The spelling of sorts and expressions: from the tree to the tokens, production by production of the grammar. A
-- production of a context-free grammar is read from its left side to its right side; parts are joined to the right.
use Rattle.std.specs.Prelude.{Bool, if◌then◌else◌, List, [], ◌∷◌, ◌++◌, map, codes}
use Rattle.civl_tree.specs.declared.name.Name.{Name}
use Rattle.civl_tree.specs.declared.expr.Sort.{Sort}
use Rattle.civl_tree.specs.declared.expr.Sort.TheVariants as sort
use Rattle.civl_tree.specs.declared.expr.One.{One}
use Rattle.civl_tree.specs.declared.expr.One.TheVariants.{Not, Flip, Minus}
use Rattle.civl_tree.specs.declared.expr.Two.{Two}
use Rattle.civl_tree.specs.declared.expr.Two.TheVariants.{Add, Sub, Mul, BitAnd, BitOr, BitXor, Shl, Shr, Lt, Le, Eq, Ne, And, Or, Implies, Udiv, Urem, Slt, Sle, Sar}
use Rattle.civl_tree.specs.declared.expr.Expr.{Expr}
use Rattle.civl_tree.specs.declared.expr.Expr.TheFolds.{fold-Expr}
use Rattle.civl_tree.specs.declared.expr.Expr.TheOpen as expr
use Rattle.civl_tree.specs.Token.{Token, Named, Reserved, Sign, Number}

-- ---- what stands in many productions: signs, names, lists

abbrev pub open_paren : Token
open_paren = Sign (codes "(")

abbrev pub close_paren : Token
close_paren = Sign (codes ")")

abbrev pub open_brace : Token
open_brace = Sign (codes "{")

abbrev pub close_brace : Token
close_brace = Sign (codes "}")

abbrev pub comma : Token
comma = Sign (codes ",")

abbrev pub semicolon : Token
semicolon = Sign (codes ";")

abbrev pub colon : Token
colon = Sign (codes ":")

abbrev pub becomes : Token
becomes = Sign (codes ":=")

abbrev pub arrow : Token
arrow = Sign (codes "->")

-- the token of a name
abbrev pub name_token : Name → Token
name_token name = Named name.bytes

-- X*: these phrases, one behind the other
abbrev pub joined : List (List Token) → List Token
joined [] = []
joined (phrase ∷ phrases) = phrase ++ joined phrases

-- list(X): nothing, or X's separated by `,`
abbrev pub separated : {X : Type 0} → (X → List Token) → List X → List Token
separated spell [] = []
separated spell (x ∷ xs) = spell x ++ joined (map (λ y. comma ∷ spell y) xs)

-- ( list(X) )
abbrev pub enclosed : {X : Type 0} → (X → List Token) → List X → List Token
enclosed spell xs = open_paren ∷ separated spell xs ++ close_paren ∷ []

-- { X* }
abbrev pub block : List (List Token) → List Token
block phrases = open_brace ∷ joined phrases ++ close_brace ∷ []

-- [X] in front of other tokens: the token X where the flag is set
abbrev pub optional : Bool → Token → List Token → List Token
optional flag token tokens = if flag then token ∷ tokens else tokens

-- ---- sorts and expressions

-- sort = bool | word ( number ) | row ( number , number )
abbrev pub spell_sort : Sort → List Token
spell_sort sort.Bool = Reserved (codes "bool") ∷ []
spell_sort (sort.Word width) = Reserved (codes "word") ∷ open_paren ∷ Number width ∷ close_paren ∷ []
spell_sort (sort.Row index width) = Reserved (codes "row") ∷ open_paren ∷ Number index ∷ comma ∷ Number width ∷ close_paren ∷ []

-- the sign in ( ! expr ), ( ~ expr ), ( - expr )
abbrev pub one_token : One → Token
one_token Not = Sign (codes "!")
one_token Flip = Sign (codes "~")
one_token Minus = Sign (codes "-")

-- op = + - * & | ^ << >> < <= == != && || => | udiv urem slt sle sar
abbrev pub op_token : Two → Token
op_token Add = Sign (codes "+")
op_token Sub = Sign (codes "-")
op_token Mul = Sign (codes "*")
op_token BitAnd = Sign (codes "&")
op_token BitOr = Sign (codes "|")
op_token BitXor = Sign (codes "^")
op_token Shl = Sign (codes "<<")
op_token Shr = Sign (codes ">>")
op_token Lt = Sign (codes "<")
op_token Le = Sign (codes "<=")
op_token Eq = Sign (codes "==")
op_token Ne = Sign (codes "!=")
op_token And = Sign (codes "&&")
op_token Or = Sign (codes "||")
op_token Implies = Sign (codes "=>")
op_token Udiv = Reserved (codes "udiv")
op_token Urem = Reserved (codes "urem")
op_token Slt = Reserved (codes "slt")
op_token Sle = Reserved (codes "sle")
op_token Sar = Reserved (codes "sar")

-- expr, where each part stands as its spelling:
--   name | number : number | true | false | done | old ( name ) | old ( done )
--   | ( ! expr ) | ( ~ expr ) | ( - expr ) | ( expr op expr ) | ( expr ? expr : expr )
--   | get ( expr , expr ) | set ( expr , expr , expr ) | fill ( number , expr ) | slice ( expr , number , number )
--   | widen ( expr , number ) | join ( expr , expr )
abbrev pub expr_step : expr.Expr-F (List Token) → List Token
expr_step (expr.Name name) = name_token name ∷ []
expr_step (expr.Literal value width) = Number value ∷ colon ∷ Number width ∷ []
expr_step expr.True = Reserved (codes "true") ∷ []
expr_step expr.False = Reserved (codes "false") ∷ []
expr_step expr.Done = Reserved (codes "done") ∷ []
expr_step (expr.Old name) = Reserved (codes "old") ∷ open_paren ∷ name_token name ∷ close_paren ∷ []
expr_step expr.OldDone = Reserved (codes "old") ∷ open_paren ∷ Reserved (codes "done") ∷ close_paren ∷ []
expr_step (expr.One op a) = open_paren ∷ one_token op ∷ a ++ close_paren ∷ []
expr_step (expr.Two op a b) = open_paren ∷ a ++ (op_token op ∷ b ++ close_paren ∷ [])
expr_step (expr.Pick test a b) = open_paren ∷ test ++ (Sign (codes "?") ∷ a ++ (colon ∷ b ++ close_paren ∷ []))
expr_step (expr.Get row at) = Reserved (codes "get") ∷ open_paren ∷ row ++ (comma ∷ at ++ close_paren ∷ [])
expr_step (expr.Set row at cell) = Reserved (codes "set") ∷ open_paren ∷ row ++ (comma ∷ at ++ (comma ∷ cell ++ close_paren ∷ []))
expr_step (expr.Fill index cell) = Reserved (codes "fill") ∷ open_paren ∷ Number index ∷ comma ∷ cell ++ close_paren ∷ []
expr_step (expr.Slice a high low) = Reserved (codes "slice") ∷ open_paren ∷ a ++ comma ∷ Number high ∷ comma ∷ Number low ∷ close_paren ∷ []
expr_step (expr.Widen a width) = Reserved (codes "widen") ∷ open_paren ∷ a ++ comma ∷ Number width ∷ close_paren ∷ []
expr_step (expr.Join a b) = Reserved (codes "join") ∷ open_paren ∷ a ++ (comma ∷ b ++ close_paren ∷ [])

-- the tokens of an expression
abbrev pub spell_expr : Expr → List Token
spell_expr = fold-Expr (List Token) expr_step
