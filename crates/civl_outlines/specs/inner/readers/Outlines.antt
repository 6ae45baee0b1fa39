-- Serves private functions: readers of outlines. The number d says how many more brackets may be open; `new` says that
-- the version is 2.
use Rattle.std.specs.Prelude.{ℕ, ◌==◌, Bool, List, codes}
use Rattle.civl_tree.specs.Token.{Token, Reserved}
use Rattle.civl_tree.specs.Spelling.{semicolon}
use Rattle.civl_tree.specs.declared.expr.Expr.{Expr}
use Rattle.civl_tree.specs.declared.program.Program.{Program}
use Rattle.civl_phrases.specs.Reader.{Reader, begins, after, both, mapped, then_token, ended}
use Rattle.civl_phrases.specs.List.{repeated}
use Rattle.civl_phrases.specs.Leaf.{a_number}
use Rattle.civl_expressions.specs.readers.Exprs.{expr_at}
use Rattle.civl_parser.specs.readers.Programs.{program_at}
use Rattle.civl_outlines.specs.declared.outline.Note.{Note}
use Rattle.civl_outlines.specs.declared.outline.Outline.{Outline}
use Rattle.civl_outlines.specs.declared.reading.Saying.{Saying}

abbrev pub hold_word : Token
hold_word = Reserved (codes "inv")

-- inv expr ;
unfoldable pub hold_at : Bool → ℕ → Reader Expr
hold_at new d = after hold_word (then_token semicolon (expr_at new d))

abbrev pub note_word : Token
note_word = Reserved (codes "assert")

abbrev pub make_note : ℕ × (ℕ × Expr) → Note
make_note p = record { item = p.0; statement = p.1.0; expr = p.1.1 }

-- assert number number expr ;
unfoldable pub note_at : Bool → ℕ → Reader Note
note_at new d = mapped make_note (after note_word (both a_number (λ _. both a_number (λ _. then_token semicolon (expr_at new d)))))

abbrev pub make_saying : List Expr × (List Note × Unit {0}) → Saying
make_saying p = record { holds = p.0; notes = p.1.0 }

-- schedule hold* note*, and nothing else
unfoldable pub saying_at : Bool → ℕ → Reader Saying
saying_at new d =
    mapped make_saying (after (Reserved (codes "schedule"))
    (both (repeated (begins hold_word) (hold_at new d)) (λ _. both (repeated (begins note_word) (note_at new d)) (λ _. ended))))

abbrev pub make_outline : Program × Saying → Outline
make_outline p = record { program = p.0; holds = p.1.holds; notes = p.1.notes }

-- an outline, and nothing else
unfoldable pub outline_text_at : ℕ → Reader Outline
outline_text_at d = mapped make_outline (both (program_at d) (λ program. saying_at (program.version == 2) d))
