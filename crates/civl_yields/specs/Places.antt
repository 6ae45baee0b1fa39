-- Where the rules on yields and movers are broken: E50, Phase; E51, InRankLoop; E52, CommitPlace; E53, DonePlace.
use Rattle.std.specs.Prelude.{Bool, true, false, not, ◌&&◌, ◌||◌, List, [], ◌∷◌, ◌++◌, map, Option, None, Some, is_some}
use Rattle.std.specs.List.{list_any}
use Rattle.civl_tree.specs.declared.expr.Expr.{Expr}
use Rattle.civl_tree.specs.declared.expr.Expr.TheOpen as expr
use Rattle.civl_tree.specs.declared.expr.Expr.TheFolds.{fold-Expr}
use Rattle.civl_tree.specs.declared.stmt.Stmt.{Stmt, out-Stmt}
use Rattle.civl_tree.specs.declared.stmt.Stmt.TheOpen.{Stmt-F, Assign, Assert, If, While, YieldLoop, RankLoop, Call, Yield, Commit, Intro, Spawn}
use Rattle.civl_tree.specs.declared.stmt.Stmt.TheFolds.{fold-Stmt}
use Rattle.civl_tree.specs.declared.action.Action.{Action}
use Rattle.civl_tree.specs.declared.program.Refines.{Refines}
use Rattle.civl_tree.specs.declared.program.Proc.{Proc}
use Rattle.civl_tree.specs.declared.program.Program.{Program}
use Rattle.civl_yields.specs.Movers.{called_action}
use Rattle.civl_layers.specs.Movers.{is_left}

-- ---- E50: a call of a right or atomic action where the phase may be left

-- a call of this action, where there is one, behind the turning point
abbrev pub too_late : Option Action → Bool
too_late None = false
too_late (Some action) = not (is_left action.mover)

abbrev pub form_late : Program → Stmt-F Stmt → Bool → Bool
form_late program (Call callee args results) left = left && too_late (called_action program callee)
form_late program _ left = false

-- the statement of a layered procedure with this phase before it
abbrev pub stmt_late : Program → Stmt → Bool → Bool
stmt_late program stmt left = form_late program (out-Stmt stmt) left

-- ---- E51: a yield or any loop inside a rank loop

-- for a statement and each of those in it, in text order, whether it stands inside a rank loop; the statement itself as told
abbrev pub inside_all : List (Bool → List Bool) → Bool → List Bool
inside_all [] inside = []
inside_all (statement ∷ statements) inside = statement inside ++ inside_all statements inside

abbrev pub inside_step : Stmt-F (Bool → List Bool) → Bool → List Bool
inside_step (If test first second) inside = inside ∷ inside_all first inside ++ inside_all second inside
inside_step (While test body) inside = inside ∷ inside_all body inside
inside_step (YieldLoop test inv body) inside = inside ∷ inside_all body inside
inside_step (RankLoop test rank inv body) inside = inside ∷ inside_all body true
inside_step _ inside = inside ∷ []

abbrev pub insides : Stmt → Bool → List Bool
insides = fold-Stmt (Bool → List Bool) inside_step

abbrev pub insides_all : List Stmt → Bool → List Bool
insides_all stmts = inside_all (map insides stmts)

-- a yield, or a loop of any form
abbrev pub form_pauses : Stmt-F Stmt → Bool
form_pauses (While test body) = true
form_pauses (YieldLoop test inv body) = true
form_pauses (RankLoop test rank inv body) = true
form_pauses (Yield inv) = true
form_pauses _ = false

-- the statement, of which it is told whether it stands inside a rank loop
abbrev pub stmt_nested : Stmt → Bool → Bool
stmt_nested stmt inside = inside && form_pauses (out-Stmt stmt)

-- ---- E52: a statement of layered procedures in a root, or one of roots in a layered procedure

-- the procedure is layered as told
abbrev pub form_misplaced : Bool → Stmt-F Stmt → Bool
form_misplaced layered (While test body) = layered
form_misplaced layered (YieldLoop test inv body) = not layered
form_misplaced layered (RankLoop test rank inv body) = not layered
form_misplaced layered (Yield inv) = not layered
form_misplaced layered Commit = not layered
form_misplaced layered (Intro target value) = not layered
form_misplaced layered (Spawn callee args) = layered
form_misplaced layered _ = false

-- a procedure that refines an action is layered, any other is a root
abbrev pub is_layered : Proc → Bool
is_layered proc = is_some proc.refines

abbrev pub stmt_misplaced : Proc → Stmt → Bool
stmt_misplaced proc stmt = form_misplaced (is_layered proc) (out-Stmt stmt)

-- ---- E53: `done` or `old` where they may not stand

-- what may stand in an expression beside names, literals and operations: `done`, and `old(..)`
pub record Leave : Type 0 where
  pub done : Bool
  pub old : Bool

-- an expression by its form, with whether a part holds `done` or `old(..)` without leave
abbrev pub stray_step : Leave → expr.Expr-F Bool → Bool
stray_step leave expr.Done = not leave.done
stray_step leave (expr.Old name) = not leave.old
stray_step leave expr.OldDone = not leave.old
stray_step leave (expr.One op part) = part
stray_step leave (expr.Two op first second) = first || second
stray_step leave (expr.Pick test first second) = test || (first || second)
stray_step leave (expr.Get row at) = row || at
stray_step leave (expr.Set row at cell) = row || (at || cell)
stray_step leave (expr.Fill index cell) = cell
stray_step leave (expr.Slice word high low) = word
stray_step leave (expr.Widen word wider) = word
stray_step leave (expr.Join first second) = first || second
stray_step leave _ = false

abbrev pub stray : Leave → Expr → Bool
stray leave = fold-Expr Bool (stray_step leave)

-- neither may stand there: all places but yield and loop invariants
abbrev pub no_leave : Leave
no_leave = record { done = false; old = false }

-- the invariant of a yield or a yield loop in a procedure that is layered as told
abbrev pub yield_leave : Bool → Leave
yield_leave layered = record { done = layered; old = false }

-- the invariant of a rank loop
abbrev pub rank_leave : Bool → Leave
rank_leave layered = record { done = layered; old = true }

abbrev pub any_stray : List Expr → Bool
any_stray exprs = list_any (stray no_leave) exprs

abbrev pub action_stray : Action → Bool
action_stray action =
    list_any (λ choice. stray no_leave choice.offer) action.choices
    || (stray no_leave action.gate || (stray no_leave action.guard || list_any (λ update. stray no_leave update.expr) action.updates))

-- the values after `with`
abbrev pub refines_stray : Option Refines → Bool
refines_stray None = false
refines_stray (Some refines) = any_stray refines.with

abbrev pub form_stray : Bool → Stmt-F Stmt → Bool
form_stray layered (Assign target value) = stray no_leave value
form_stray layered (Assert fact) = stray no_leave fact
form_stray layered (If test first second) = stray no_leave test
form_stray layered (While test body) = stray no_leave test
form_stray layered (YieldLoop test inv body) = stray no_leave test || stray (yield_leave layered) inv
form_stray layered (RankLoop test rank inv body) = stray no_leave test || (stray no_leave rank || stray (rank_leave layered) inv)
form_stray layered (Call callee args results) = any_stray args
form_stray layered (Yield inv) = stray (yield_leave layered) inv
form_stray layered Commit = false
form_stray layered (Intro target value) = stray no_leave value
form_stray layered (Spawn callee args) = any_stray args

abbrev pub stmt_stray : Proc → Stmt → Bool
stmt_stray proc stmt = form_stray (is_layered proc) (out-Stmt stmt)
