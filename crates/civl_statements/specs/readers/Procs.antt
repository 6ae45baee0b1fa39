-- Serves the parser: readers of procedures. The number d says how many more brackets may be open; `new` says
-- that the version is 2.
use Rattle.std.specs.Prelude.{ℕ, ◌-◌, Bool, true, false, List, [], ◌∷◌, codes, Option, None, Some}
use Rattle.civl_tree.specs.Token.{Token, Reserved}
use Rattle.civl_tree.specs.Spelling.{open_brace, close_brace, semicolon, colon}
use Rattle.civl_tree.specs.declared.name.Name.{Name}
use Rattle.civl_tree.specs.declared.expr.Sort.{Sort}
use Rattle.civl_tree.specs.declared.expr.Expr.{Expr}
use Rattle.civl_tree.specs.declared.stmt.Stmt.{Stmt}
use Rattle.civl_tree.specs.declared.program.Refines.{Refines}
use Rattle.civl_tree.specs.declared.program.Local.{Local}
use Rattle.civl_tree.specs.declared.program.Proc.{Proc}
use Rattle.civl_phrases.specs.Reader.{Reader, begins, after, opened, both, mapped, then_token, leaf, done, chosen}
use Rattle.civl_phrases.specs.List.{repeated}
use Rattle.civl_phrases.specs.Leaf.{a_number}
use Rattle.civl_phrases.specs.Table.{lookup, guarded, is_form, form_in}
use Rattle.civl_expressions.specs.declared.params.Heading.{Heading}
use Rattle.civl_statements.specs.declared.procedures.Body.{Body}
use Rattle.civl_expressions.specs.readers.Names.{name_at}
use Rattle.civl_expressions.specs.readers.Exprs.{sort_at, args_at}
use Rattle.civl_statements.specs.readers.Stmts.{stmt_at, stmt_next}
use Rattle.civl_expressions.specs.readers.Headings.{heading_at}

-- ---- root, or what is refined

abbrev pub make_refines : Name × (List Expr × ℕ) → Refines
make_refines p = record { action = p.0; with = p.1.0; layer = p.1.1 }

unfoldable pub refines_at : Bool → ℕ → Reader Refines
refines_at new d =
    mapped make_refines (after (Reserved (codes "refines")) (both name_at (λ _. after (Reserved (codes "with")) (both (args_at new d) (λ _. after (Reserved (codes "layer")) a_number)))))

unfoldable pub rank_of_at : Bool → ℕ → Reader (Option Refines)
rank_of_at new d = chosen (begins (Reserved (codes "root"))) (mapped (λ _. None) (after (Reserved (codes "root")) done)) (mapped (λ refines. Some refines) (refines_at new d))

-- ---- locals

-- the words of locals, and whether they are those of linear ones
abbrev pub local_table : List (Token × Bool)
local_table = (Reserved (codes "linear"), true) ∷ (Reserved (codes "var"), false) ∷ []

abbrev pub local_of : Token → Option Bool
local_of token = guarded (λ _. true) (lookup local_table token)

unfoldable pub local_word_at : Reader Bool
local_word_at = leaf local_of

abbrev pub local_next : Option Token → Bool
local_next next = is_form (form_in (λ _. true) local_table next)

abbrev pub make_local : Bool × (Name × Sort) → Local
make_local p = record { linear = p.0; name = p.1.0; sort = p.1.1 }

unfoldable pub local_at : ℕ → Reader Local
local_at d = mapped make_local (both local_word_at (λ _. both name_at (λ _. after colon (then_token semicolon (sort_at d)))))

-- ---- procedures

abbrev pub make_body : List Local × List Stmt → Body
make_body p = record { locals = p.0; stmts = p.1 }

-- local* stmt* }
unfoldable pub body_at : Bool → ℕ → Reader Body
body_at new d = mapped make_body (both (repeated local_next (local_at d)) (λ _. then_token close_brace (repeated (stmt_next new) (stmt_at new d))))

abbrev pub make_proc : Heading × (Option Refines × Body) → Proc
make_proc p = record { name = p.0.name; params = p.0.params; outs = p.0.outs; refines = p.1.0; locals = p.1.1.locals; body = p.1.1.stmts }

abbrev pub proc_word : Token
proc_word = Reserved (codes "proc")

unfoldable pub proc_at : Bool → ℕ → Reader Proc
proc_at new d = mapped make_proc (both (heading_at proc_word d) (λ _. both (rank_of_at new d) (λ _. opened open_brace d (body_at new (d - 1)))))
