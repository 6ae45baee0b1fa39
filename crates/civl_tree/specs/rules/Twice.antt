-- E10, Twice: a name that stands for two things.
use Rattle.std.specs.Prelude.{ℕ, Bool, false, ◌||◌, List, ◌++◌, take}
use Rattle.std.specs.List.{list_any}
use Rattle.civl_tree.specs.declared.name.Name.{Name}
use Rattle.civl_tree.specs.declared.stmt.Stmt.{Stmt, out-Stmt}
use Rattle.civl_tree.specs.declared.stmt.Stmt.TheOpen.{Stmt-F, Call}
use Rattle.civl_tree.specs.declared.action.Action.{Action}
use Rattle.civl_tree.specs.declared.program.Global.{Global}
use Rattle.civl_tree.specs.declared.program.Proc.{Proc}
use Rattle.civl_tree.specs.declared.program.Program.{Program}
use Rattle.civl_tree.specs.rules.Names.{has_name, any_twice, global_names, action_names, proc_names, names_in_action, names_in_proc, targets_of}

-- the global at this place has the name of an earlier one
abbrev pub global_twice : Program → ℕ → Global → Bool
global_twice program place global = has_name (global_names (take place program.globals)) global.name

-- names that a declaration declares: one stands twice, or is that of a global
abbrev pub declared_twice : Program → List Name → Bool
declared_twice program names = any_twice names || list_any (has_name (global_names program.globals)) names

-- the action at this place has the name of a global or an earlier action, declares a name twice or that of a global,
-- or updates a target twice
abbrev pub action_twice : Program → ℕ → Action → Bool
action_twice program place action =
    has_name (global_names program.globals ++ action_names (take place program.actions)) action.name
    || (declared_twice program (names_in_action action) || any_twice (targets_of action))

-- the procedure at this place has the name of a global, an action or an earlier procedure, or declares a name twice or
-- that of a global
abbrev pub proc_twice : Program → ℕ → Proc → Bool
proc_twice program place proc =
    has_name (global_names program.globals ++ (action_names program.actions ++ proc_names (take place program.procs))) proc.name
    || declared_twice program (names_in_proc proc)

abbrev pub form_twice : Stmt-F Stmt → Bool
form_twice (Call callee args results) = any_twice results
form_twice _ = false

-- a call names one result twice
abbrev pub stmt_twice : Stmt → Bool
stmt_twice stmt = form_twice (out-Stmt stmt)
