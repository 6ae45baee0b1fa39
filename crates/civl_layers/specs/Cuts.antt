-- The cuts of a procedure that refines an action: the places between which its paths run (the cut points of Floyd's
-- inductive assertions, Assigning meanings to programs, 1967). Cut 0 is the entry; the yields, the yield loops and the
-- rank loops are the others, in text order.
use Rattle.std.specs.Prelude.{ℕ, ◌+◌, List, [], ◌∷◌, ◌++◌, Option, None, Some}
use Rattle.civl_tree.specs.declared.stmt.Stmt.{Stmt, out-Stmt}
use Rattle.civl_tree.specs.declared.stmt.Stmt.TheOpen.{Stmt-F, YieldLoop, RankLoop, Yield}
use Rattle.civl_tree.specs.declared.program.Refines.{Refines}
use Rattle.civl_tree.specs.declared.program.Proc.{Proc}
use Rattle.civl_tree.specs.Numbering.{no_statement, statements_of}
use Rattle.civl_layers.specs.declared.cut.Cut.{Cut}
use Rattle.civl_layers.specs.declared.cut.CutKind.{CutKind}
use Rattle.civl_layers.specs.declared.cut.CutKind.TheVariants as kind

abbrev pub form_cut : Stmt-F Stmt → Option CutKind
form_cut (YieldLoop test inv body) = Some kind.YieldLoop
form_cut (RankLoop test rank inv body) = Some kind.RankLoop
form_cut (Yield inv) = Some kind.Yield
form_cut _ = None

-- which cut a statement is, where it is one
abbrev pub cut_kind : Stmt → Option CutKind
cut_kind stmt = form_cut (out-Stmt stmt)

-- the statement with this number, where it is a cut of this kind
abbrev pub cut_at : ℕ → Option CutKind → List Cut
cut_at number None = []
cut_at number (Some kind) = record { statement = number; kind = kind } ∷ []

-- the cuts among these statements, where the first has this number
unfoldable pub cuts_among : ℕ → List Stmt → List Cut
cuts_among number [] = []
cuts_among number (stmt ∷ stmts) = cut_at number (cut_kind stmt) ++ cuts_among (number + 1) stmts

-- the entry, outside all statements
abbrev pub entry_cut : Cut
entry_cut = record { statement = no_statement; kind = kind.Entry }

-- a root has no cuts
abbrev pub cuts_below : Option Refines → List Stmt → List Cut
cuts_below None body = []
cuts_below (Some refines) body = entry_cut ∷ cuts_among 0 (statements_of body)

abbrev pub proc_cuts : Proc → List Cut
proc_cuts proc = cuts_below proc.refines proc.body
