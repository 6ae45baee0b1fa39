-- E10: the first name that stands for two things.
use Rattle.std.specs.Prelude.{ℕ, if◌then◌else◌, List, [], ◌∷◌, ◌++◌, Option, None, Some, take}
use Rattle.std.specs.Option.{option_or}
use Rattle.civl_tree.specs.declared.name.Name.{Name}
use Rattle.civl_tree.specs.declared.stmt.Stmt.{Stmt, out-Stmt}
use Rattle.civl_tree.specs.declared.stmt.Stmt.TheOpen.{Stmt-F, Call}
use Rattle.civl_tree.specs.declared.action.Action.{Action}
use Rattle.civl_tree.specs.declared.program.Global.{Global}
use Rattle.civl_tree.specs.declared.program.Proc.{Proc}
use Rattle.civl_tree.specs.declared.program.Program.{Program}
use Rattle.civl_tree.specs.rules.Names.{has_name, global_names, action_names, proc_names, names_in_action, names_in_proc, targets_of}

-- the first of these names that is among the earlier ones, or stands among these before
abbrev pub first_again : List Name → List Name → Option Name
first_again earlier [] = None
first_again earlier (name ∷ names) = if has_name earlier name then Some name else first_again (earlier ++ name ∷ []) names

-- the name of a declaration, if it is among these
abbrev pub name_again : List Name → Name → Option Name
name_again earlier name = if has_name earlier name then Some name else None

-- a global has the name of an earlier one
abbrev pub global_again : Program → ℕ → Global → Option Name
global_again program place global = name_again (global_names (take place program.globals)) global.name

-- an action has the name of a global or an earlier action; a parameter, output or choice that of a global or an earlier one
-- of these; a target is updated again
abbrev pub action_again : Program → ℕ → Action → Option Name
action_again program place action =
    option_or (name_again (global_names program.globals ++ action_names (take place program.actions)) action.name)
    (option_or (first_again (global_names program.globals) (names_in_action action)) (first_again [] (targets_of action)))

-- a procedure has the name of a global, an action or an earlier procedure; a parameter, output or local that of a global or
-- an earlier one of these
abbrev pub proc_again : Program → ℕ → Proc → Option Name
proc_again program place proc =
    option_or (name_again (global_names program.globals ++ (action_names program.actions
    ++ proc_names (take place program.procs))) proc.name)
    (first_again (global_names program.globals) (names_in_proc proc))

-- a call names a result again
abbrev pub form_again : Stmt-F Stmt → Option Name
form_again (Call callee args results) = first_again [] results
form_again _ = None

abbrev pub stmt_again : Stmt → Option Name
stmt_again stmt = form_again (out-Stmt stmt)
