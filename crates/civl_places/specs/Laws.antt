-- What the definitions say together.
use Rattle.std.specs.Prelude.{◌≡◌, ℕ, ◌≢◌, ◌+◌, ◌-◌, ◌<◌, ◌≤◌, ◌⊎◌, IfSome, IsSomeAnd, None, Some, List, [], ◌∷◌, length, slice_get}
use Rattle.civl_tree.specs.declared.program.Proc.{Proc}
use Rattle.civl_tree.specs.declared.program.Program.{Program}
use Rattle.civl_tree.specs.declared.stmt.Stmt.{Stmt}
use Rattle.civl_tree.specs.Spelling.{close_brace, spell_expr}
use Rattle.civl_tree.specs.SpellingStmt.{spell_stmt}
use Rattle.civl_tree.specs.SpellingProgram.{spell_proc, spell_program}
use Rattle.civl_tree.specs.SpellingLaws.{spell_item, IsItem}
use Rattle.civl_tree.specs.Numbering.{Item, proc_item, exit_number, statement_at}
use Rattle.civl_reasons.specs.Stands.{StandAt}
use Rattle.civl_places.specs.declared.formula.Formula.{Formula}
use Rattle.civl_places.specs.Formulas.{formula_at}
use Rattle.civl_places.specs.Starts.{item_start, statement_start}
use Rattle.civl_places.specs.Lines.{line_of, column_of, line_at}

-- a line before the other, or the same line and a column before the other
abbrev pub IsBefore : List ℕ → ℕ → ℕ → Type 0
IsBefore bytes p q =
    (line_of bytes p < line_of bytes q) ⊎ ((line_of bytes p ≡ line_of bytes q) × (column_of bytes p < column_of bytes q))

-- Of two offsets in a text the smaller one has the earlier position.
abbrev pub InOrder : Type 0
InOrder = (bytes : List ℕ) (p q : ℕ) → p < q → q ≤ length bytes → IsBefore bytes p q

-- Two offsets in a text with the same position are equal.
abbrev pub OneOffset : Type 0
OneOffset = (bytes : List ℕ) (p q : ℕ) → p ≤ length bytes → q ≤ length bytes
    → line_of bytes p ≡ line_of bytes q → column_of bytes p ≡ column_of bytes q → p ≡ q

-- In its line a byte stands at its column, unless it is the line feed that ends the line.
abbrev pub ByteIsInLine : Type 0
ByteIsInLine = (bytes : List ℕ) (offset byte : ℕ) → slice_get bytes offset ≡ Some byte → byte ≢ 10
    → slice_get (line_at bytes offset) (column_of bytes offset - 1) ≡ Some byte

-- ---- where items and statements begin

-- At the token of an item its spelling begins.
abbrev pub ItemsBegin : Type 0
ItemsBegin = (program : Program) (number : ℕ) (item : Item) → IsItem program number item
    → StandAt (spell_item item) (spell_program program) (item_start program number)

-- Each statement of a procedure has a token, at which its spelling begins.
abbrev pub StatementsBegin : Type 0
StatementsBegin = (program : Program) (place number : ℕ) (proc : Proc) (stmt : Stmt)
    → slice_get program.procs place ≡ Some proc → statement_at proc.body number ≡ Some stmt
    → IsSomeAnd (statement_start program place number) (StandAt (spell_stmt stmt) (spell_program program))

-- So has its exit: the last token of the procedure, a brace.
abbrev pub ExitsStand : Type 0
ExitsStand = (program : Program) (place : ℕ) (proc : Proc) → slice_get program.procs place ≡ Some proc
    → IsSomeAnd (statement_start program place (exit_number proc.body)) (λ start.
    StandAt (close_brace ∷ []) (spell_program program) start
    × (start + 1 ≡ item_start program (proc_item program place) + length (spell_proc proc)))

-- No number behind the exit's has a token.
abbrev pub NoneBehindExit : Type 0
NoneBehindExit = (program : Program) (place number : ℕ) (proc : Proc) → slice_get program.procs place ≡ Some proc
    → exit_number proc.body < number → statement_start program place number ≡ None

-- Of two statements of a procedure the one with the smaller number begins first, and the exit comes last.
abbrev pub StartsRise : Type 0
StartsRise = (program : Program) (place m n first second : ℕ)
    → statement_start program place m ≡ Some first → statement_start program place n ≡ Some second → m < n → first < second

-- ---- where expressions begin

-- At the token that is told of an expression its spelling stands.
abbrev pub FormulasStand : Type 0
FormulasStand = (program : Program) (formula : Formula)
    → IfSome (formula_at program formula) (λ part. StandAt (spell_expr part.expr) (spell_program program) part.token)
