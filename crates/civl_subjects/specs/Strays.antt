-- E53: the first `done` or `old(..)` that means nothing where it stands.
use Rattle.std.specs.Prelude.{Bool, if◌then◌else◌, List, Option, None, Some}
use Rattle.std.specs.Option.{option_or}
use Rattle.civl_tree.specs.declared.expr.Expr.{Expr}
use Rattle.civl_tree.specs.declared.expr.Expr as tree
use Rattle.civl_tree.specs.declared.expr.Expr.TheOpen as expr
use Rattle.civl_tree.specs.declared.expr.Expr.TheFolds.{fold-Expr}
use Rattle.civl_tree.specs.declared.stmt.Stmt.{Stmt, out-Stmt}
use Rattle.civl_tree.specs.declared.stmt.Stmt.TheOpen.{Stmt-F, Assign, Assert, If, While, YieldLoop, RankLoop, Call, Yield, Intro, Spawn}
use Rattle.civl_tree.specs.declared.action.Action.{Action}
use Rattle.civl_tree.specs.declared.program.Refines.{Refines}
use Rattle.civl_tree.specs.declared.program.Proc.{Proc}
use Rattle.civl_yields.specs.Places.{Leave, no_leave, yield_leave, rank_leave, is_layered}
use Rattle.civl_subjects.specs.Parts.{first_told}

-- an expression by its form, with the first `done` or `old(..)` without leave in each part
abbrev pub stray_step : Leave → expr.Expr-F (Option Expr) → Option Expr
stray_step leave expr.Done = if leave.done then None else Some tree.Done
stray_step leave (expr.Old name) = if leave.old then None else Some (tree.Old name)
stray_step leave expr.OldDone = if leave.old then None else Some tree.OldDone
stray_step leave (expr.One op part) = part
stray_step leave (expr.Two op first second) = option_or first second
stray_step leave (expr.Pick test first second) = option_or test (option_or first second)
stray_step leave (expr.Get row at) = option_or row at
stray_step leave (expr.Set row at cell) = option_or row (option_or at cell)
stray_step leave (expr.Fill index cell) = cell
stray_step leave (expr.Slice word high low) = word
stray_step leave (expr.Widen word wider) = word
stray_step leave (expr.Join first second) = option_or first second
stray_step leave _ = None

-- the first of an expression
abbrev pub first_stray : Leave → Expr → Option Expr
first_stray leave = fold-Expr (Option Expr) (stray_step leave)

-- the first of these expressions, where neither may stand
abbrev pub any_stray : List Expr → Option Expr
any_stray exprs = first_told (first_stray no_leave) exprs

abbrev pub action_stray : Action → Option Expr
action_stray action =
    option_or (first_told (λ choice. first_stray no_leave choice.offer) action.choices)
    (option_or (first_stray no_leave action.gate)
    (option_or (first_stray no_leave action.guard) (first_told (λ update. first_stray no_leave update.expr) action.updates)))

abbrev pub refines_stray : Option Refines → Option Expr
refines_stray None = None
refines_stray (Some refines) = any_stray refines.with

abbrev pub form_stray : Bool → Stmt-F Stmt → Option Expr
form_stray layered (Assign target value) = first_stray no_leave value
form_stray layered (Assert fact) = first_stray no_leave fact
form_stray layered (If test first second) = first_stray no_leave test
form_stray layered (While test body) = first_stray no_leave test
form_stray layered (YieldLoop test inv body) = option_or (first_stray no_leave test) (first_stray (yield_leave layered) inv)
form_stray layered (RankLoop test rank inv body) =
    option_or (first_stray no_leave test) (option_or (first_stray no_leave rank) (first_stray (rank_leave layered) inv))
form_stray layered (Call callee args results) = any_stray args
form_stray layered (Yield inv) = first_stray (yield_leave layered) inv
form_stray layered (Intro target value) = first_stray no_leave value
form_stray layered (Spawn callee args) = any_stray args
form_stray layered _ = None

abbrev pub stmt_stray : Proc → Stmt → Option Expr
stmt_stray proc stmt = form_stray (is_layered proc) (out-Stmt stmt)
