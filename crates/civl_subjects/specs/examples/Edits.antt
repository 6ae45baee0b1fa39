-- What is told of refusals by each rule, on edited copies of the program with a flag, of the one of two layers and of the one
-- with linear locals.
use Rattle.std.specs.Prelude.{ℕ, ◌≡◌, List, [], ◌∷◌, Some, codes}
use Rattle.std.specs.Option.{option_map}
use Rattle.civl_tree.specs.declared.expr.Expr.{Expr}
use Rattle.civl_tree.specs.declared.expr.Expr as expr
use Rattle.civl_tree.specs.declared.expr.Two.TheVariants.{Add, Eq, And}
use Rattle.civl_tree.specs.declared.expr.Sort.TheVariants.{Bool as Truth, Word, Row}
use Rattle.civl_tree.specs.declared.stmt.Stmt.{Stmt}
use Rattle.civl_tree.specs.declared.stmt.Stmt as stmt
use Rattle.civl_tree.specs.declared.program.Program.{Program}
use Rattle.civl_tree.specs.examples.RulesFlag.{named, name, val, call, plain_global, flag_global, call_set, do_set, flag}
use Rattle.civl_layers.specs.examples.Tower.{low, mid, top, global, calls, layered, intro, proc_p, proc_q, proc_r, with_actions, with_invariant, with_procs, with_globals, with_p, with_q}
use Rattle.civl_linear.specs.examples.Dock.{dock, takes, gives, tells, pairs}
use Rattle.civl_subjects.specs.Texts.{subject_text}
use Rattle.civl_subjects.specs.Told.{subject}

-- of a refusal with this code, item and statement this is told
abbrev pub Tells : Program → ℕ → ℕ → ℕ → List ℕ → Type 0
Tells program code item statement text =
    option_map subject_text (subject program (record { code = code; item = item; statement = statement })) ≡ Some text

-- the flag program with this expression for `init`, and with this body of its procedure
abbrev pub with_init : Expr → Program
with_init init = record flag { init = init }

abbrev pub with_body : List Stmt → Program
with_body body = record flag { procs = do_set body ∷ [] }

-- E10 and E11: the name that stands twice or isn't in scope
abbrev pub NamesAreTold : Type 0
NamesAreTold =
    Tells (record flag { globals = flag_global ∷ flag_global ∷ [] }) 10 1 0 (codes "f")
    × Tells (with_body (call_set ∷ call (codes "Set") [] (named (codes "a") ∷ named (codes "b") ∷ named (codes "a") ∷ []) ∷ [])) 10 4 1
    (codes "a")
    × Tells (with_init (expr.Two And (name (codes "f")) (expr.Old (named (codes "g"))))) 11 1 0 (codes "g")
    × Tells (with_body (call (codes "Reset") [] [] ∷ [])) 11 4 0 (codes "Reset")

-- E12: a number of the header
abbrev pub HeadersAreTold : Type 0
HeadersAreTold =
    Tells (record flag { layers = 9 }) 12 0 0 (codes "layers 9, not 1 to 8")
    × Tells (record flag { version = 3 }) 12 0 0 (codes "version 3, not 1 or 2")

-- E20 to E24: literals, sorts and counts
abbrev pub SortsAreTold : Type 0
SortsAreTold =
    Tells (with_init (expr.Two Eq (expr.Literal 256 8) (expr.Literal 0 8))) 20 1 0 (codes "256:8")
    × Tells (record flag { globals = plain_global (codes "f") (Word 33) ∷ [] }) 20 0 0 (codes "f : word(33)")
    × Tells (with_init (expr.Two Add (expr.Literal 1 8) (expr.Literal 2 8))) 21 1 0 (codes "(1:8 + 2:8) is word(8), bool is needed")
    × Tells (with_init (expr.Two And (name (codes "f")) (expr.Literal 1 8))) 21 1 0 (codes "(f && 1:8) has no sort")
    × Tells (record flag { globals = plain_global (codes "f") (Row 7 8) ∷ [] }) 22 0 0 (codes "f : row(7, 8)")
    × Tells (with_body (call (codes "Set") (expr.True ∷ []) [] ∷ [])) 23 4 0 (codes "1 argument, not 0")
    × Tells (record flag {
      globals =
          flag_global ∷ plain_global (codes "g") (Row 6 32) ∷ plain_global (codes "h") (Row 6 32) ∷ [];
    }) 24 2 0 (codes "h : row(6, 32)")

-- E30 to E35, in the program of two layers
abbrev pub LayersAreTold : Type 0
LayersAreTold =
    Tells (with_globals (global (codes "a") 1 0) (global (codes "b") 0 2) (global (codes "c") 1 2)) 30 0 0 (codes "1 to 0, with 2 layers")
    × Tells (with_invariant 3 expr.True) 30 4 0 (codes "3, with 2 layers")
    × Tells (with_actions (record low { gate = name (codes "c") }) mid top) 31 5 0 (codes "c")
    × Tells (with_q (stmt.Commit ∷ stmt.Yield (name (codes "a")) ∷ [])) 31 9 1 (codes "a")
    × Tells (with_p (stmt.Commit ∷ calls (codes "Q") ∷ [])) 32 8 1 (codes "Q")
    × Tells (with_q (calls (codes "P") ∷ calls (codes "Low") ∷ [])) 33 9 1 (codes "Low")
    × Tells (with_procs (layered (codes "P") (codes "Low") [] 1 []) proc_q proc_r) 33 8 0 (codes "Low")
    × Tells (with_procs (record proc_p { params = val (codes "x") Truth ∷ [] }) proc_q proc_r) 34 8 0 (codes "1 parameter, not 0")
    × Tells (with_p (stmt.Commit ∷ intro (codes "b") expr.True ∷ [])) 35 8 1 (codes "b")

-- E40, E41, E43: linear locals
abbrev pub LinearIsTold : Type 0
LinearIsTold =
    Tells (dock (gives (codes "o") ∷ takes (codes "x") ∷ takes (codes "x") ∷ [])) 40 6 2 (codes "x")
    × Tells (dock (gives (codes "o") ∷ pairs (codes "x") (codes "x") ∷ [])) 41 6 1 (codes "x")
    × Tells (dock (gives (codes "x") ∷ [])) 41 6 0 (codes "x")
    × Tells (dock (gives (codes "o") ∷ tells (codes "z") ∷ [])) 43 6 1 (codes "z")

-- E50 to E53: calls that come too late, statements that may not stand there, `done` and `old(..)`
abbrev pub YieldsAreTold : Type 0
YieldsAreTold =
    Tells (with_body (call_set ∷ call_set ∷ [])) 50 4 1 (codes "Set")
    × Tells (with_body (stmt.RankLoop expr.True (expr.Literal 0 8) expr.True (stmt.Yield expr.True ∷ []) ∷ [])) 51 4 1 (codes "a yield")
    × Tells (with_body (stmt.While expr.True [] ∷ [])) 52 4 0 (codes "a loop in a procedure that refines an action")
    × Tells (with_init (expr.Two And expr.True expr.Done)) 53 1 0 (codes "done")
    × Tells (with_body (stmt.Yield (expr.Old (named (codes "f"))) ∷ [])) 53 4 0 (codes "old(f)")
