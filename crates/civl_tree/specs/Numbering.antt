-- Part of the claim: docs/CLAIM.md.
-- The numbers by which a refusal names its place. Items are the declarations of a program in text order; statements
-- are those of a procedure in text order, an `if` or a loop before its parts, the first branch before the second. That
-- is the preorder numbering of a forest (Knuth, The Art of Computer Programming, volume 1, section 2.3.2).
use Rattle.std.specs.Prelude.{ℕ, ◌+◌, Option, List, [], ◌∷◌, ◌++◌, length, map, sum, slice_get}
use Rattle.std.specs.List.{flat_map}
use Rattle.civl_tree.specs.declared.expr.Expr.{Expr}
use Rattle.civl_tree.specs.declared.action.Action.{Action}
use Rattle.civl_tree.specs.declared.program.Global.{Global}
use Rattle.civl_tree.specs.declared.program.Invariant.{Invariant}
use Rattle.civl_tree.specs.declared.program.Proc.{Proc}
use Rattle.civl_tree.specs.declared.program.Thread.{Thread}
use Rattle.civl_tree.specs.declared.program.Program.{Program}
use Rattle.civl_tree.specs.declared.stmt.Stmt.{Stmt}
use Rattle.civl_tree.specs.declared.stmt.Stmt.TheOpen.{Stmt-F, Assign, Assert, If, While, YieldLoop, RankLoop, Call, Yield, Commit, Intro, Spawn}
use Rattle.civl_tree.specs.declared.stmt.Stmt.TheFolds.{fold-Stmt, para-Stmt}

-- ---- items: the globals, `init`, the invariants, the actions, the procedures and the threads, from 0

-- the item to which a fault in the three header numbers belongs
abbrev pub header_item : ℕ
header_item = 0

-- the number of the global at this place among the globals
abbrev pub global_item : Program → ℕ → ℕ
global_item program place = place

-- the number of `init`
abbrev pub init_item : Program → ℕ
init_item program = length program.globals

-- the number of the invariant at this place among the invariants
abbrev pub invariant_item : Program → ℕ → ℕ
invariant_item program place = init_item program + 1 + place

-- the number of the action at this place among the actions
abbrev pub action_item : Program → ℕ → ℕ
action_item program place = invariant_item program (length program.invariants) + place

-- the number of the procedure at this place among the procedures
abbrev pub proc_item : Program → ℕ → ℕ
proc_item program place = action_item program (length program.actions) + place

-- the number of the thread at this place among the threads
abbrev pub thread_item : Program → ℕ → ℕ
thread_item program place = proc_item program (length program.procs) + place

-- how many items a program has
abbrev pub item_count : Program → ℕ
item_count program = thread_item program (length program.threads)

-- an item: a declaration with what it declares
pub data Item : Type 0 where
  OfGlobal : Global → Item
  OfInit : Expr → Item
  OfInvariant : Invariant → Item
  OfAction : Action → Item
  OfProc : Proc → Item
  OfThread : Thread → Item

-- all items of a program in text order: the number of an item is its place here
abbrev pub items_of : Program → List Item
items_of program =
    map OfGlobal program.globals ++ (OfInit program.init ∷ map OfInvariant program.invariants
    ++ (map OfAction program.actions ++ (map OfProc program.procs ++ map OfThread program.threads)))

-- ---- statements of a procedure, from 0

-- the statement number of a fault that stands in no statement
abbrev pub no_statement : ℕ
no_statement = 0

-- how many statements there are, where each part of a statement stands for the number of those in it
abbrev pub size_step : Stmt-F ℕ → ℕ
size_step (If test first second) = 1 + sum first + sum second
size_step (While test body) = 1 + sum body
size_step (YieldLoop test inv body) = 1 + sum body
size_step (RankLoop test rank inv body) = 1 + sum body
size_step _ = 1

-- how many statements a statement is, itself and all that stand in it
abbrev pub size_of : Stmt → ℕ
size_of = fold-Stmt ℕ size_step

-- how many statements these are, with all that stand in them
abbrev pub sizes_of : List Stmt → ℕ
sizes_of stmts = sum (map size_of stmts)

-- the number of the first statement in the first branch of the `if` with this number, or in the body of such a loop
abbrev pub inner_number : ℕ → ℕ
inner_number number = number + 1

-- the number of the first statement in the second branch of the `if` with this number and this first branch
abbrev pub second_number : ℕ → List Stmt → ℕ
second_number number first = number + 1 + sizes_of first

-- the number of the statement behind this one, which has this number
abbrev pub next_number : ℕ → Stmt → ℕ
next_number number stmt = number + size_of stmt

-- these statements, each with its number, where the first one has this number
abbrev pub numbered : ℕ → List Stmt → List (ℕ × Stmt)
numbered number [] = []
numbered number (stmt ∷ stmts) = (number, stmt) ∷ numbered (next_number number stmt) stmts

-- the number of a fault at the exit of a body: the number of its statements
abbrev pub exit_number : List Stmt → ℕ
exit_number body = sizes_of body

-- ---- the statement that has a number

-- a statement and those in it
abbrev pub with_inner : Stmt × List Stmt → List Stmt
with_inner part = part.0 ∷ part.1

-- the statements in a statement, where each part stands with those in it
abbrev pub inner_step : Stmt-F (Stmt × List Stmt) → List Stmt
inner_step (Assign target value) = []
inner_step (Assert fact) = []
inner_step (If test first second) = flat_map with_inner first ++ flat_map with_inner second
inner_step (While test body) = flat_map with_inner body
inner_step (YieldLoop test inv body) = flat_map with_inner body
inner_step (RankLoop test rank inv body) = flat_map with_inner body
inner_step (Call callee args results) = []
inner_step (Yield inv) = []
inner_step Commit = []
inner_step (Intro target value) = []
inner_step (Spawn callee args) = []

-- the statements that stand in this one, in text order
abbrev pub inner_of : Stmt → List Stmt
inner_of = para-Stmt (List Stmt) inner_step

-- all statements of a body in text order, each before those in it: the number of a statement is its place here
abbrev pub statements_of : List Stmt → List Stmt
statements_of body = flat_map (λ stmt. stmt ∷ inner_of stmt) body

-- the statement of a body that has this number
abbrev pub statement_at : List Stmt → ℕ → Option Stmt
statement_at body number = slice_get (statements_of body) number
