-- Part of the claim: docs/CLAIM.md.
-- Which trees have a spelling. The grammar can write a tree where each name in it is a name, each mode is one that its
-- place has, and `spawn` and the operators udiv, urem, slt, sle and sar come in version 2 alone. The numbers of a tree
-- have 32 bits by their type, as those of a text have. Tests go over the parts in text order, joined to the right;
-- `new` says that the version is 2.
use Rattle.std.specs.Prelude.{◌≡◌, ◌==◌, Bool, true, false, ◌&&◌, if◌then◌else◌, IsTrue, Option, None, Some, List, length}
use Rattle.std.specs.List.{list_all}
use Rattle.civl_tree.specs.declared.name.Name.{Name}
use Rattle.civl_tree.specs.declared.expr.Two.{Two}
use Rattle.civl_tree.specs.declared.expr.Two.TheVariants.{Udiv, Urem, Slt, Sle, Sar}
use Rattle.civl_tree.specs.declared.expr.Expr.{Expr}
use Rattle.civl_tree.specs.declared.expr.Expr.TheFolds.{fold-Expr}
use Rattle.civl_tree.specs.declared.expr.Expr.TheOpen as expr
use Rattle.civl_tree.specs.declared.stmt.Stmt.{Stmt}
use Rattle.civl_tree.specs.declared.stmt.Stmt.TheFolds.{fold-Stmt}
use Rattle.civl_tree.specs.declared.stmt.Stmt.TheOpen as stmt
use Rattle.civl_tree.specs.declared.action.Mode.{Mode}
use Rattle.civl_tree.specs.declared.action.Mode.TheVariants.{Val, Lend, Take, Give}
use Rattle.civl_tree.specs.declared.action.Param.{Param}
use Rattle.civl_tree.specs.declared.action.Choice.{Choice}
use Rattle.civl_tree.specs.declared.action.Update.{Update}
use Rattle.civl_tree.specs.declared.action.Action.{Action}
use Rattle.civl_tree.specs.declared.program.Refines.{Refines}
use Rattle.civl_tree.specs.declared.program.Local.{Local}
use Rattle.civl_tree.specs.declared.program.Proc.{Proc}
use Rattle.civl_tree.specs.declared.program.Global.{Global}
use Rattle.civl_tree.specs.declared.program.Invariant.{Invariant}
use Rattle.civl_tree.specs.declared.program.Thread.{Thread}
use Rattle.civl_tree.specs.declared.program.Program.{Program}
use Rattle.civl_tree.specs.declared.script.Entry.{Entry}
use Rattle.civl_tree.specs.declared.script.Told.{Told}
use Rattle.civl_tree.specs.declared.script.Script.{Script}
use Rattle.civl_tree.specs.Token.{Token, is_name}
use Rattle.civl_tree.specs.SpellingProgram.{spell_program}
use Rattle.civl_tree.specs.SpellingScript.{spell_script}

-- the bytes are a name: a letter or `_`, then letters, digits and `_`, and no reserved word
abbrev pub allows_name : Name → Bool
allows_name name = is_name name.bytes

-- the version has the operator
abbrev pub allows_op : Bool → Two → Bool
allows_op new Udiv = new
allows_op new Urem = new
allows_op new Slt = new
allows_op new Sle = new
allows_op new Sar = new
allows_op new _ = true

-- an expression, where each part stands as whether the grammar can write it
abbrev pub allows_expr_step : Bool → expr.Expr-F Bool → Bool
allows_expr_step new (expr.Name name) = allows_name name
allows_expr_step new (expr.Literal value width) = true
allows_expr_step new expr.True = true
allows_expr_step new expr.False = true
allows_expr_step new expr.Done = true
allows_expr_step new (expr.Old name) = allows_name name
allows_expr_step new expr.OldDone = true
allows_expr_step new (expr.One op a) = a
allows_expr_step new (expr.Two op a b) = a && (allows_op new op && b)
allows_expr_step new (expr.Pick test a b) = test && (a && b)
allows_expr_step new (expr.Get row at) = row && at
allows_expr_step new (expr.Set row at cell) = row && (at && cell)
allows_expr_step new (expr.Fill index cell) = cell
allows_expr_step new (expr.Slice a high low) = a
allows_expr_step new (expr.Widen a width) = a
allows_expr_step new (expr.Join a b) = a && b

-- the grammar can write the expression
abbrev pub allows_expr : Bool → Expr → Bool
allows_expr new = fold-Expr Bool (allows_expr_step new)

-- each holds
abbrev pub all_hold : List Bool → Bool
all_hold tests = list_all (λ test. test) tests

-- a statement, where each part that is a statement stands as whether the grammar can write it
abbrev pub allows_stmt_step : Bool → stmt.Stmt-F Bool → Bool
allows_stmt_step new (stmt.Assign target value) = allows_name target && allows_expr new value
allows_stmt_step new (stmt.Assert fact) = allows_expr new fact
allows_stmt_step new (stmt.If test first second) = allows_expr new test && (all_hold first && all_hold second)
allows_stmt_step new (stmt.While test body) = allows_expr new test && all_hold body
allows_stmt_step new (stmt.YieldLoop test inv body) = allows_expr new test && (allows_expr new inv && all_hold body)
allows_stmt_step new (stmt.RankLoop test rank inv body) =
    allows_expr new test && (allows_expr new rank && (allows_expr new inv && all_hold body))
allows_stmt_step new (stmt.Call callee args results) = allows_name callee && (list_all (allows_expr new) args && list_all allows_name results)
allows_stmt_step new (stmt.Yield inv) = allows_expr new inv
allows_stmt_step new stmt.Commit = true
allows_stmt_step new (stmt.Intro target value) = allows_name target && allows_expr new value
allows_stmt_step new (stmt.Spawn callee args) = new && (allows_name callee && list_all (allows_expr new) args)

-- the grammar can write the statement
abbrev pub allows_stmt : Bool → Stmt → Bool
allows_stmt new = fold-Stmt Bool (allows_stmt_step new)

-- the modes of a parameter: val, lend and take
abbrev pub is_param_mode : Mode → Bool
is_param_mode Val = true
is_param_mode Lend = true
is_param_mode Take = true
is_param_mode Give = false

-- the modes of an output: val and give
abbrev pub is_out_mode : Mode → Bool
is_out_mode Val = true
is_out_mode Lend = false
is_out_mode Take = false
is_out_mode Give = true

-- a global: its name
abbrev pub allows_global : Global → Bool
allows_global global = allows_name global.name

-- an invariant: its expression
abbrev pub allows_invariant : Bool → Invariant → Bool
allows_invariant new invariant = allows_expr new invariant.expr

-- a parameter: its mode and its name
abbrev pub allows_param : Param → Bool
allows_param param = is_param_mode param.mode && allows_name param.name

-- an output: its mode and its name
abbrev pub allows_out : Param → Bool
allows_out out = is_out_mode out.mode && allows_name out.name

-- a choice: its name and its offer
abbrev pub allows_choice : Bool → Choice → Bool
allows_choice new choice = allows_name choice.name && allows_expr new choice.offer

-- an update: its target and its expression
abbrev pub allows_update : Bool → Update → Bool
allows_update new update = allows_name update.target && allows_expr new update.expr

-- an action: its name, parameters, outputs, choices, gate, guard and updates
abbrev pub allows_action : Bool → Action → Bool
allows_action new action =
    allows_name action.name && (list_all allows_param action.params && (list_all allows_out action.outs
    && (list_all (allows_choice new) action.choices && (allows_expr new action.gate && (allows_expr new action.guard
    && list_all (allows_update new) action.updates)))))

-- `root`, or the refined action's name and the values for its choices
abbrev pub allows_rank_of : Bool → Option Refines → Bool
allows_rank_of new None = true
allows_rank_of new (Some refines) = allows_name refines.action && list_all (allows_expr new) refines.with

-- a local: its name
abbrev pub allows_local : Local → Bool
allows_local local = allows_name local.name

-- a procedure: its name, parameters, outputs, refined action, locals and statements
abbrev pub allows_proc : Bool → Proc → Bool
allows_proc new proc =
    allows_name proc.name && (list_all allows_param proc.params && (list_all allows_out proc.outs
    && (allows_rank_of new proc.refines && (list_all allows_local proc.locals && list_all (allows_stmt new) proc.body))))

-- a thread: the name that it calls and its arguments
abbrev pub allows_thread : Bool → Thread → Bool
allows_thread new thread = allows_name thread.callee && list_all (allows_expr new) thread.args

-- the declarations of a program
abbrev pub allows_items : Bool → Program → Bool
allows_items new program =
    list_all allows_global program.globals && (allows_expr new program.init && (list_all (allows_invariant new) program.invariants
    && (list_all (allows_action new) program.actions && (list_all (allows_proc new) program.procs
    && list_all (allows_thread new) program.threads))))

-- the grammar can write the program
abbrev pub allows_program : Program → Bool
allows_program program = allows_items (program.version == 2) program

-- a row of any literals, or one literal
abbrev pub allows_value : Entry → Bool
allows_value entry = if entry.row then true else length entry.cells == 1

-- the value of a global, with its name
abbrev pub allows_entry : Entry → Bool
allows_entry entry = allows_name entry.name && allows_value entry

-- the value for a choice, with an empty name
abbrev pub allows_chosen : Entry → Bool
allows_chosen entry = (length entry.name.bytes == 0) && allows_value entry

-- a move: the values for the choices
abbrev pub allows_told : Told → Bool
allows_told told = list_all allows_chosen told.choices

-- the grammar can write the script
abbrev pub allows_script : Script → Bool
allows_script script = allows_program script.program && (list_all allows_entry script.store && list_all allows_told script.moves)

-- the program has a spelling
abbrev pub HasSpelling : Program → Type 0
HasSpelling program = IsTrue (allows_program program)

-- the script has a spelling
abbrev pub ScriptHasSpelling : Script → Type 0
ScriptHasSpelling script = IsTrue (allows_script script)

-- these tokens are the spelling of the program
abbrev pub IsSpelledBy : List Token → Program → Type 0
IsSpelledBy tokens program = HasSpelling program × (tokens ≡ spell_program program)

-- these tokens are the spelling of the script
abbrev pub ScriptIsSpelledBy : List Token → Script → Type 0
ScriptIsSpelledBy tokens script = ScriptHasSpelling script × (tokens ≡ spell_script script)
