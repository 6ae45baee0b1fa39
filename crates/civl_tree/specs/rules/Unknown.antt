-- E11, Unknown: a name that isn't in scope as what is needed.
use Rattle.std.specs.Prelude.{Bool, false, not, ◌||◌, List, ◌++◌, Option, None, Some, is_none}
use Rattle.std.specs.List.{list_any}
use Rattle.civl_tree.specs.declared.name.Name.{Name}
use Rattle.civl_tree.specs.declared.stmt.Stmt.{Stmt, out-Stmt}
use Rattle.civl_tree.specs.declared.stmt.Stmt.TheOpen.{Stmt-F, Assign, Call, Intro, Spawn}
use Rattle.civl_tree.specs.declared.action.Action.{Action}
use Rattle.civl_tree.specs.declared.program.Refines.{Refines}
use Rattle.civl_tree.specs.declared.program.Proc.{Proc}
use Rattle.civl_tree.specs.declared.program.Thread.{Thread}
use Rattle.civl_tree.specs.declared.program.Program.{Program}
use Rattle.civl_tree.specs.rules.Names.{has_name, global_names, param_names, names_in_proc, targets_of, action_named, proc_named, callee_signature}
use Rattle.civl_tree.specs.rules.Exprs.{names_known}
use Rattle.civl_tree.specs.rules.Uses.{Use, action_uses, with_uses, stmt_uses, thread_uses}

-- a name of one of these expressions isn't in its scope
abbrev pub any_unknown : List Use → Bool
any_unknown uses = list_any (λ use_of. not (names_known use_of.scope use_of.expression)) uses

-- an update's target is neither a global nor an output of the action
abbrev pub target_unknown : Program → Action → Name → Bool
target_unknown program action target = not (has_name (global_names program.globals ++ param_names action.outs) target)

abbrev pub action_unknown : Program → Action → Bool
action_unknown program action = list_any (target_unknown program action) (targets_of action) || any_unknown (action_uses program action)

-- the refined name is no action
abbrev pub refined_unknown : Program → Option Refines → Bool
refined_unknown program None = false
refined_unknown program (Some refines) = is_none (action_named program refines.action)

abbrev pub proc_unknown : Program → Proc → Bool
proc_unknown program proc = refined_unknown program proc.refines || any_unknown (with_uses program proc proc.refines)

-- an assign's target or a result is no parameter, output or local
abbrev pub place_unknown : Proc → Name → Bool
place_unknown proc name = not (has_name (names_in_proc proc) name)

-- the names of a statement that stand in no expression: a target, a result or a callee
abbrev pub form_unknown : Program → Proc → Stmt-F Stmt → Bool
form_unknown program proc (Assign target value) = place_unknown proc target
form_unknown program proc (Call callee args results) = is_none (callee_signature program callee) || list_any (place_unknown proc) results
form_unknown program proc (Intro target value) = not (has_name (global_names program.globals) target)
form_unknown program proc (Spawn callee args) = is_none (proc_named program callee)
form_unknown program proc _ = false

abbrev pub stmt_unknown : Program → Proc → Stmt → Bool
stmt_unknown program proc stmt = form_unknown program proc (out-Stmt stmt) || any_unknown (stmt_uses program proc stmt)

-- a thread's callee is no procedure
abbrev pub thread_unknown : Program → Thread → Bool
thread_unknown program thread = is_none (proc_named program thread.callee) || any_unknown (thread_uses program thread)
