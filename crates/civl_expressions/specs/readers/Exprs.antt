-- Serves the parser: readers of sorts and expressions, by the next token. The number d says how many more
-- brackets may be open, and R reads an expression within the next bracket; `new` says that the version is 2.
use Rattle.std.specs.Prelude.{ℕ, zero, suc, ◌-◌, Bool, true, List, [], ◌∷◌, codes, IsTrue, Option, None, Some, Err}
use Rattle.civl_tree.specs.Token.{Token, Named, Reserved, Sign, Number}
use Rattle.civl_tree.specs.Spelling.{open_paren, close_paren, comma, colon}
use Rattle.civl_tree.specs.SpellingDomain.{allows_op, allows_expr}
use Rattle.civl_tree.specs.declared.name.Name.{Name}
use Rattle.civl_tree.specs.declared.expr.Sort.{Sort}
use Rattle.civl_tree.specs.declared.expr.Sort.TheVariants as sort
use Rattle.civl_tree.specs.declared.expr.One.{One}
use Rattle.civl_tree.specs.declared.expr.One.TheVariants as ones
use Rattle.civl_tree.specs.declared.expr.Two.{Two}
use Rattle.civl_tree.specs.declared.expr.Two.TheVariants as twos
use Rattle.civl_tree.specs.declared.expr.Expr.{Expr}
use Rattle.civl_tree.specs.declared.expr.Expr.TheVariants as expr
use Rattle.civl_phrases.specs.declared.halt.Stop.TheVariants as stops
use Rattle.civl_phrases.specs.Reader.{Reader, begins, after, opened, both, mapped, then_token, leaf, done, chosen, by_form}
use Rattle.civl_phrases.specs.List.{enclosed}
use Rattle.civl_phrases.specs.Leaf.{a_number}
use Rattle.civl_phrases.specs.Table.{lookup, guarded, is_form}
use Rattle.civl_expressions.specs.readers.Names.{name_at}
use Rattle.civl_expressions.specs.declared.forms.SortForm.{SortForm}
use Rattle.civl_expressions.specs.declared.forms.SortForm.TheVariants as sort_forms
use Rattle.civl_expressions.specs.declared.forms.ExprForm.{ExprForm}
use Rattle.civl_expressions.specs.declared.forms.ExprForm.TheVariants as forms

-- ---- sorts

abbrev pub sort_table : List (Token × SortForm)
sort_table = (Reserved (codes "bool"), sort_forms.Bool) ∷ (Reserved (codes "word"), sort_forms.Word) ∷ (Reserved (codes "row"), sort_forms.Row) ∷ []

abbrev pub sort_form : Option Token → Option SortForm
sort_form None = None
sort_form (Some token) = lookup sort_table token

unfoldable pub bool_at : Reader Sort
bool_at = mapped (λ _. sort.Bool) (after (Reserved (codes "bool")) done)

unfoldable pub word_at : ℕ → Reader Sort
word_at d = mapped (λ width. sort.Word width) (after (Reserved (codes "word")) (opened open_paren d (then_token close_paren a_number)))

unfoldable pub row_at : ℕ → Reader Sort
row_at d = mapped (λ p. sort.Row p.0 p.1) (after (Reserved (codes "row")) (opened open_paren d (both a_number (λ _. after comma (then_token close_paren a_number)))))

abbrev pub sort_as : ℕ → SortForm → Reader Sort
sort_as d sort_forms.Bool = bool_at
sort_as d sort_forms.Word = word_at d
sort_as d sort_forms.Row = row_at d

unfoldable pub sort_at : ℕ → Reader Sort
sort_at d = by_form sort_form (sort_as d)

-- ---- operators

abbrev pub one_table : List (Token × One)
one_table = (Sign (codes "!"), ones.Not) ∷ (Sign (codes "~"), ones.Flip) ∷ (Sign (codes "-"), ones.Minus) ∷ []

abbrev pub one_of : Token → Option One
one_of token = guarded (λ _. true) (lookup one_table token)

unfoldable pub one_at : Reader One
one_at = leaf one_of

-- the operators that version 2 alone has
abbrev pub word_table : List (Token × Two)
word_table = (Reserved (codes "udiv"), twos.Udiv) ∷ (Reserved (codes "urem"), twos.Urem) ∷ (Reserved (codes "slt"), twos.Slt) ∷ (Reserved (codes "sle"), twos.Sle) ∷ (Reserved (codes "sar"), twos.Sar) ∷ []

abbrev pub bool_table : List (Token × Two)
bool_table =
    (Sign (codes "<"), twos.Lt) ∷ (Sign (codes "<="), twos.Le) ∷ (Sign (codes "=="), twos.Eq) ∷ (Sign (codes "!="), twos.Ne)
    ∷ (Sign (codes "&&"), twos.And) ∷ (Sign (codes "||"), twos.Or) ∷ (Sign (codes "=>"), twos.Implies) ∷ word_table

abbrev pub two_table : List (Token × Two)
two_table =
    (Sign (codes "+"), twos.Add) ∷ (Sign (codes "-"), twos.Sub) ∷ (Sign (codes "*"), twos.Mul) ∷ (Sign (codes "&"), twos.BitAnd) ∷ (Sign (codes "|"), twos.BitOr) ∷ (Sign (codes "^"), twos.BitXor)
    ∷ (Sign (codes "<<"), twos.Shl) ∷ (Sign (codes ">>"), twos.Shr) ∷ bool_table

abbrev pub two_of : Bool → Token → Option Two
two_of new token = guarded (allows_op new) (lookup two_table token)

unfoldable pub two_at : Bool → Reader Two
two_at new = leaf (two_of new)

-- ---- expressions by their first token

abbrev pub word_forms : List (Token × ExprForm)
word_forms =
    (Reserved (codes "get"), forms.Get) ∷ (Reserved (codes "set"), forms.Set) ∷ (Reserved (codes "fill"), forms.Fill) ∷ (Reserved (codes "slice"), forms.Slice)
    ∷ (Reserved (codes "widen"), forms.Widen) ∷ (Reserved (codes "join"), forms.Join) ∷ []

abbrev pub expr_table : List (Token × ExprForm)
expr_table =
    (Reserved (codes "true"), forms.True) ∷ (Reserved (codes "false"), forms.False) ∷ (Reserved (codes "done"), forms.Done) ∷ (Reserved (codes "old"), forms.Old) ∷ (Sign (codes "("), forms.Paren) ∷ word_forms

abbrev pub expr_form_of : Token → Option ExprForm
expr_form_of (Named bytes) = Some forms.Name
expr_form_of (Number value) = Some forms.Literal
expr_form_of (Reserved bytes) = lookup expr_table (Reserved bytes)
expr_form_of (Sign bytes) = lookup expr_table (Sign bytes)

abbrev pub expr_form : Option Token → Option ExprForm
expr_form None = None
expr_form (Some token) = expr_form_of token

abbrev pub expr_next : Option Token → Bool
expr_next next = is_form (expr_form next)

-- ---- what stands in parentheses

-- an operator and the expression behind it, or what stands behind `?`
pub data Tail : Type 0 where
  TwoTail : Two → Expr → Tail
  PickTail : Expr → Expr → Tail

-- an operator and its operand, or an expression and what stands behind it
pub data Inside : Type 0 where
  OneInside : One → Expr → Inside
  TailInside : Expr → Tail → Inside

abbrev pub with_tail : Expr → Tail → Expr
with_tail first (TwoTail op second) = expr.Two op first second
with_tail test (PickTail first second) = expr.Pick test first second

abbrev pub of_inside : Inside → Expr
of_inside (OneInside op operand) = expr.One op operand
of_inside (TailInside first tail) = with_tail first tail

unfoldable pub pick_at : Reader Expr → Reader Tail
pick_at R = mapped (λ p. PickTail p.0 p.1) (after (Sign (codes "?")) (both R (λ _. after colon (then_token close_paren R))))

unfoldable pub binary_at : Bool → Reader Expr → Reader Tail
binary_at new R = mapped (λ p. TwoTail p.0 p.1) (both (two_at new) (λ _. then_token close_paren R))

unfoldable pub tail_at : Bool → Reader Expr → Reader Tail
tail_at new R = chosen (begins (Sign (codes "?"))) (pick_at R) (binary_at new R)

unfoldable pub inside_at : Bool → Reader Expr → Reader Inside
inside_at new R = chosen expr_next (mapped (λ p. TailInside p.0 p.1) (both R (λ _. tail_at new R))) (mapped (λ p. OneInside p.0 p.1) (both one_at (λ _. then_token close_paren R)))

unfoldable pub paren_at : Bool → ℕ → Reader Expr → Reader Expr
paren_at new d R = mapped of_inside (opened open_paren d (inside_at new R))

-- ---- the other forms

unfoldable pub literal_at : Reader Expr
literal_at = mapped (λ p. expr.Literal p.0 p.1) (both a_number (λ _. after colon a_number))

unfoldable pub constant_at : Token → Expr → Reader Expr
constant_at token value = mapped (λ _. value) (after token done)

-- a name, or `done`
abbrev pub of_old : Option Name → Expr
of_old None = expr.OldDone
of_old (Some name) = expr.Old name

unfoldable pub olden_at : Reader (Option Name)
olden_at = chosen (begins (Reserved (codes "done"))) (mapped (λ _. None) (after (Reserved (codes "done")) done)) (mapped (λ name. Some name) name_at)

unfoldable pub old_at : ℕ → Reader Expr
old_at d = mapped of_old (after (Reserved (codes "old")) (opened open_paren d (then_token close_paren olden_at)))

-- a word, and two expressions in parentheses
unfoldable pub pair_at : Token → ℕ → Reader Expr → Reader (Expr × Expr)
pair_at token d R = after token (opened open_paren d (both R (λ _. after comma (then_token close_paren R))))

unfoldable pub get_at : ℕ → Reader Expr → Reader Expr
get_at d R = mapped (λ p. expr.Get p.0 p.1) (pair_at (Reserved (codes "get")) d R)

unfoldable pub join_at : ℕ → Reader Expr → Reader Expr
join_at d R = mapped (λ p. expr.Join p.0 p.1) (pair_at (Reserved (codes "join")) d R)

-- two expressions with a comma between
unfoldable pub exprs_at : Reader Expr → Reader (Expr × Expr)
exprs_at R = both R (λ _. after comma R)

unfoldable pub set_at : ℕ → Reader Expr → Reader Expr
set_at d R = mapped (λ p. expr.Set p.0.0 p.0.1 p.1) (after (Reserved (codes "set")) (opened open_paren d (both (exprs_at R) (λ _. after comma (then_token close_paren R)))))

unfoldable pub fill_at : ℕ → Reader Expr → Reader Expr
fill_at d R = mapped (λ p. expr.Fill p.0 p.1) (after (Reserved (codes "fill")) (opened open_paren d (both a_number (λ _. after comma (then_token close_paren R)))))

unfoldable pub slice_at : ℕ → Reader Expr → Reader Expr
slice_at d R = mapped (λ p. expr.Slice p.0 p.1.0 p.1.1) (after (Reserved (codes "slice")) (opened open_paren d (both R (λ _. after comma (both a_number (λ _. after comma (then_token close_paren a_number)))))))

unfoldable pub widen_at : ℕ → Reader Expr → Reader Expr
widen_at d R = mapped (λ p. expr.Widen p.0 p.1) (after (Reserved (codes "widen")) (opened open_paren d (both R (λ _. after comma (then_token close_paren a_number)))))

-- ---- expressions

abbrev pub expr_as : Bool → ℕ → Reader Expr → ExprForm → Reader Expr
expr_as new d R forms.Name = mapped (λ name. expr.Name name) name_at
expr_as new d R forms.Literal = literal_at
expr_as new d R forms.True = constant_at (Reserved (codes "true")) expr.True
expr_as new d R forms.False = constant_at (Reserved (codes "false")) expr.False
expr_as new d R forms.Done = constant_at (Reserved (codes "done")) expr.Done
expr_as new d R forms.Old = old_at d
expr_as new d R forms.Paren = paren_at new d R
expr_as new d R forms.Get = get_at d R
expr_as new d R forms.Set = set_at d R
expr_as new d R forms.Fill = fill_at d R
expr_as new d R forms.Slice = slice_at d R
expr_as new d R forms.Widen = widen_at d R
expr_as new d R forms.Join = join_at d R

unfoldable pub expr_by : Bool → ℕ → Reader Expr → Reader Expr
expr_by new d R = by_form expr_form (expr_as new d R)

-- within one more bracket; it is not asked where no more may be open
unfoldable pub inner_expr : Bool → ℕ → Reader Expr
inner_expr new zero = λ tokens. Err (stops.Deep 0)
inner_expr new (suc d) = expr_by new d (inner_expr new d)

unfoldable pub expr_at : Bool → ℕ → Reader Expr
expr_at new d = expr_by new d (inner_expr new d)

-- the grammar can write the expression
abbrev pub FitsExpr : Bool → Expr → Type 0
FitsExpr new e = IsTrue (allows_expr new e)

-- ---- expressions in other phrases

-- arguments in parentheses
unfoldable pub args_at : Bool → ℕ → Reader (List Expr)
args_at new d = opened open_paren d (enclosed close_paren (expr_at new (d - 1)))
