-- Serves the parser: readers of statements, by the next token. The number d says how many more brackets may be
-- open, and S reads a statement within the next bracket; `new` says that the version is 2.
use Rattle.std.specs.Prelude.{ℕ, zero, suc, Bool, true, List, [], ◌∷◌, codes, IsTrue, Option, None, Some, Err}
use Rattle.civl_tree.specs.Token.{Token, Named, Reserved, Sign, Number}
use Rattle.civl_tree.specs.Spelling.{open_paren, close_paren, open_brace, close_brace, semicolon, becomes, arrow}
use Rattle.civl_tree.specs.SpellingDomain.{allows_stmt}
use Rattle.civl_tree.specs.declared.name.Name.{Name}
use Rattle.civl_tree.specs.declared.expr.Expr.{Expr}
use Rattle.civl_tree.specs.declared.stmt.Stmt.{Stmt}
use Rattle.civl_tree.specs.declared.stmt.Stmt.TheVariants as stmt
use Rattle.civl_phrases.specs.declared.halt.Stop.TheVariants as stops
use Rattle.civl_phrases.specs.Reader.{Reader, begins, after, opened, both, mapped, then_token, done, chosen, by_form}
use Rattle.civl_phrases.specs.List.{repeated, enclosed}
use Rattle.civl_phrases.specs.Table.{lookup, guarded, is_form}
use Rattle.civl_expressions.specs.readers.Names.{name_at}
use Rattle.civl_expressions.specs.readers.Exprs.{expr_at, args_at}
use Rattle.civl_statements.specs.declared.forms.StmtForm.{StmtForm}
use Rattle.civl_statements.specs.declared.forms.StmtForm.TheVariants as forms

-- ---- statements by their first token

abbrev pub more_table : List (Token × StmtForm)
more_table = (Reserved (codes "yield"), forms.Yield) ∷ (Reserved (codes "commit"), forms.Commit) ∷ (Reserved (codes "intro"), forms.Intro) ∷ (Reserved (codes "spawn"), forms.Spawn) ∷ []

abbrev pub stmt_table : List (Token × StmtForm)
stmt_table = (Reserved (codes "assert"), forms.Assert) ∷ (Reserved (codes "if"), forms.If) ∷ (Reserved (codes "while"), forms.While) ∷ (Reserved (codes "call"), forms.Call) ∷ more_table

-- the version has the form
abbrev pub has_form : Bool → StmtForm → Bool
has_form new forms.Spawn = new
has_form new _ = true

abbrev pub stmt_form_of : Bool → Token → Option StmtForm
stmt_form_of new (Named bytes) = Some forms.Assign
stmt_form_of new (Number value) = None
stmt_form_of new (Reserved bytes) = guarded (has_form new) (lookup stmt_table (Reserved bytes))
stmt_form_of new (Sign bytes) = None

abbrev pub stmt_form : Bool → Option Token → Option StmtForm
stmt_form new None = None
stmt_form new (Some token) = stmt_form_of new token

abbrev pub stmt_next : Bool → Option Token → Bool
stmt_next new next = is_form (stmt_form new next)

-- ---- lists in parentheses

-- results
unfoldable pub results_at : ℕ → Reader (List Name)
results_at d = opened open_paren d (enclosed close_paren name_at)

-- ---- statements without statements

unfoldable pub assign_at : Bool → ℕ → Reader Stmt
assign_at new d = mapped (λ p. stmt.Assign p.0 p.1) (both name_at (λ _. after becomes (then_token semicolon (expr_at new d))))

unfoldable pub assert_at : Bool → ℕ → Reader Stmt
assert_at new d = mapped (λ e. stmt.Assert e) (after (Reserved (codes "assert")) (then_token semicolon (expr_at new d)))

unfoldable pub call_at : Bool → ℕ → Reader Stmt
call_at new d = mapped (λ p. stmt.Call p.0 p.1.0 p.1.1) (after (Reserved (codes "call")) (both name_at (λ _. both (args_at new d) (λ _. after arrow (then_token semicolon (results_at d))))))

unfoldable pub yield_at : Bool → ℕ → Reader Stmt
yield_at new d = mapped (λ e. stmt.Yield e) (after (Reserved (codes "yield")) (then_token semicolon (expr_at new d)))

unfoldable pub commit_at : Reader Stmt
commit_at = mapped (λ _. stmt.Commit) (after (Reserved (codes "commit")) (after semicolon done))

unfoldable pub intro_at : Bool → ℕ → Reader Stmt
intro_at new d = mapped (λ p. stmt.Intro p.0 p.1) (after (Reserved (codes "intro")) (both name_at (λ _. after becomes (then_token semicolon (expr_at new d)))))

unfoldable pub spawn_at : Bool → ℕ → Reader Stmt
spawn_at new d = mapped (λ p. stmt.Spawn p.0 p.1) (after (Reserved (codes "spawn")) (both name_at (λ _. then_token semicolon (args_at new d))))

-- ---- statements with statements

unfoldable pub block_at : Bool → ℕ → Reader Stmt → Reader (List Stmt)
block_at new d S = opened open_brace d (then_token close_brace (repeated (stmt_next new) S))

unfoldable pub if_at : Bool → ℕ → Reader Stmt → Reader Stmt
if_at new d S = mapped (λ p. stmt.If p.0 p.1.0 p.1.1) (after (Reserved (codes "if")) (both (expr_at new d) (λ _. both (block_at new d S) (λ _. after (Reserved (codes "else")) (block_at new d S)))))

-- what stands behind `while`
pub data Loop : Type 0 where
  Plain : Expr → List Stmt → Loop
  Yields : Expr → Expr → List Stmt → Loop
  Ranked : Expr → Expr → Expr → List Stmt → Loop

abbrev pub of_loop : Loop → Stmt
of_loop (Plain test body) = stmt.While test body
of_loop (Yields test inv body) = stmt.YieldLoop test inv body
of_loop (Ranked test rank inv body) = stmt.RankLoop test rank inv body

unfoldable pub plain_loop_at : Bool → ℕ → Reader Stmt → Reader Loop
plain_loop_at new d S = mapped (λ p. Plain p.0 p.1) (both (expr_at new d) (λ _. block_at new d S))

-- inv expr { stmt* }
unfoldable pub inv_body_at : Bool → ℕ → Reader Stmt → Reader (Expr × List Stmt)
inv_body_at new d S = after (Reserved (codes "inv")) (both (expr_at new d) (λ _. block_at new d S))

unfoldable pub yield_loop_at : Bool → ℕ → Reader Stmt → Reader Loop
yield_loop_at new d S = mapped (λ p. Yields p.0 p.1.0 p.1.1) (after (Reserved (codes "yield")) (both (expr_at new d) (λ _. inv_body_at new d S)))

-- by expr inv expr { stmt* }
unfoldable pub by_body_at : Bool → ℕ → Reader Stmt → Reader (Expr × (Expr × List Stmt))
by_body_at new d S = after (Reserved (codes "by")) (both (expr_at new d) (λ _. inv_body_at new d S))

unfoldable pub rank_loop_at : Bool → ℕ → Reader Stmt → Reader Loop
rank_loop_at new d S = mapped (λ p. Ranked p.0 p.1.0 p.1.1.0 p.1.1.1) (after (Reserved (codes "rank")) (both (expr_at new d) (λ _. by_body_at new d S)))

unfoldable pub while_at : Bool → ℕ → Reader Stmt → Reader Stmt
while_at new d S = mapped of_loop (after (Reserved (codes "while"))
    (chosen (begins (Reserved (codes "yield"))) (yield_loop_at new d S) (chosen (begins (Reserved (codes "rank"))) (rank_loop_at new d S) (plain_loop_at new d S))))

-- ---- statements

abbrev pub stmt_as : Bool → ℕ → Reader Stmt → StmtForm → Reader Stmt
stmt_as new d S forms.Assign = assign_at new d
stmt_as new d S forms.Assert = assert_at new d
stmt_as new d S forms.If = if_at new d S
stmt_as new d S forms.While = while_at new d S
stmt_as new d S forms.Call = call_at new d
stmt_as new d S forms.Yield = yield_at new d
stmt_as new d S forms.Commit = commit_at
stmt_as new d S forms.Intro = intro_at new d
stmt_as new d S forms.Spawn = spawn_at new d

unfoldable pub stmt_by : Bool → ℕ → Reader Stmt → Reader Stmt
stmt_by new d S = by_form (stmt_form new) (stmt_as new d S)

-- within one more bracket; it is not asked where no more may be open
unfoldable pub inner_stmt : Bool → ℕ → Reader Stmt
inner_stmt new zero = λ tokens. Err (stops.Deep 0)
inner_stmt new (suc d) = stmt_by new d (inner_stmt new d)

unfoldable pub stmt_at : Bool → ℕ → Reader Stmt
stmt_at new d = stmt_by new d (inner_stmt new d)

-- the grammar can write the statement
abbrev pub FitsStmt : Bool → Stmt → Type 0
FitsStmt new s = IsTrue (allows_stmt new s)
