-- Programs that break several rules: the order of codes comes first, then that of items, then that of statements.
use Rattle.std.specs.Prelude.{◌≡◌, [], ◌∷◌, codes}
use Rattle.civl_tree.specs.declared.expr.Expr.{Expr}
use Rattle.civl_tree.specs.declared.expr.Expr as expr
use Rattle.civl_tree.specs.declared.expr.Two.TheVariants.{Eq}
use Rattle.civl_tree.specs.declared.expr.Sort.TheVariants.{Bool as Truth, Word, Row}
use Rattle.civl_tree.specs.declared.stmt.Stmt as stmt
use Rattle.civl_tree.specs.declared.program.Program.{Program}
use Rattle.civl_tree.specs.rules.Rules.{refusals_of}
use Rattle.civl_tree.specs.rules.Typing.{sort_rule}
use Rattle.civl_tree.specs.rules.Broken.{broken_at}
use Rattle.civl_tree.specs.examples.RulesFlag.{named, name, plain_global, bare, Refused}
use Rattle.civl_tree.specs.examples.RulesUnit.{with_init, unit_thread, with_body}

-- a word where a bool is needed, a literal that doesn't fit, and a name that isn't there
abbrev pub word : Expr
word = expr.Literal 1 2

abbrev pub high : Expr
high = expr.Two Eq (expr.Literal 4 2) (expr.Literal 4 2)

abbrev pub lost : Expr
lost = name (codes "x")

-- a thread's argument
abbrev pub argued : Expr → Program → Program
argued arg program = record program { threads = unit_thread (arg ∷ []) ∷ [] }

abbrev pub FirstOfAll : Type 0
FirstOfAll =
    Refused (argued lost (with_init word)) 11 6 0
    × Refused (argued high (with_init word)) 20 6 0
    × Refused (argued high (with_init lost)) 11 1 0
    × Refused (record (argued lost (with_init lost)) { version = 7 }) 11 1 0
    × Refused (record (argued word (with_init word)) { version = 7; layers = 9 }) 12 0 0
    × Refused (record bare { globals = plain_global (codes "x") (Row 7 33) ∷ plain_global (codes "x") Truth ∷ [] }) 10 1 0
    × Refused (record bare { globals = plain_global (codes "x") (Row 7 8) ∷ plain_global (codes "y") (Word 33) ∷ [] }) 20 1 0
    × Refused (with_body (stmt.Assert word ∷ stmt.Assert high ∷ stmt.Assert lost ∷ stmt.Assert lost ∷ [])) 11 4 2
    × Refused (with_body (stmt.Assert word ∷ stmt.If word (stmt.Assert high ∷ []) (stmt.Assert high ∷ []) ∷ [])) 20 4 2
    × Refused (with_body (stmt.If word (stmt.Assert word ∷ []) (stmt.Assert word ∷ []) ∷ [])) 21 4 0

-- all places of one rule, in text order
abbrev pub deep : Program
deep = with_body (
    stmt.If expr.True (stmt.While word (stmt.Yield word ∷ stmt.Commit ∷ []) ∷ []) (stmt.Assert word ∷ [])
    ∷ stmt.YieldLoop expr.True word (stmt.Assert word ∷ [])
    ∷ stmt.RankLoop expr.True word expr.True (stmt.RankLoop expr.True word expr.True (stmt.Yield word ∷ []) ∷ [])
    ∷ stmt.Intro (named (codes "g")) word
    ∷ [])

abbrev pub AllPlaces : Type 0
AllPlaces = refusals_of sort_rule deep ≡ broken_at sort_rule 4 1 ∷ broken_at sort_rule 4 2 ∷ broken_at sort_rule 4 4 ∷ broken_at sort_rule 4 5 ∷ broken_at sort_rule 4 6 ∷ broken_at sort_rule 4 9 ∷ broken_at sort_rule 4 10 ∷ []
