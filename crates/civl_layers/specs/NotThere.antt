-- E33, NotThere: an action that doesn't exist where it is needed. The action that is called exists in the caller's whole
-- life; the action of a procedure of layer m that is called or spawned exists from m to the end of that life, which for
-- a thread is the top; the action that a procedure refines exists in the procedure's layer.
use Rattle.std.specs.Prelude.{ℕ, Bool, false, not, Option, None, Some}
use Rattle.civl_tree.specs.declared.stmt.Stmt.{Stmt, out-Stmt}
use Rattle.civl_tree.specs.declared.stmt.Stmt.TheOpen.{Stmt-F, Call, Spawn}
use Rattle.civl_tree.specs.declared.action.Action.{Action}
use Rattle.civl_tree.specs.declared.program.Refines.{Refines}
use Rattle.civl_tree.specs.declared.program.Proc.{Proc}
use Rattle.civl_tree.specs.declared.program.Thread.{Thread}
use Rattle.civl_tree.specs.declared.program.Program.{Program}
use Rattle.civl_tree.specs.rules.Names.{action_named, proc_named}
use Rattle.civl_layers.specs.Ranges.{exists_through, life_end}
use Rattle.civl_layers.specs.Names.{action_range}

-- an action, where there is one, doesn't exist in all layers from this one to that one
abbrev pub action_missing : ℕ → ℕ → Option Action → Bool
action_missing from to None = false
action_missing from to (Some action) = not (exists_through from to (action_range action))

-- the action of what a procedure refines doesn't exist from the procedure's layer to this one; a root has none
abbrev pub refined_missing : Program → ℕ → Option Refines → Bool
refined_missing program to None = false
refined_missing program to (Some refines) = action_missing refines.layer to (action_named program refines.action)

-- the same of a procedure that may not be declared
abbrev pub run_missing : Program → ℕ → Option Proc → Bool
run_missing program to None = false
run_missing program to (Some proc) = refined_missing program to proc.refines

-- a call, in a life to this layer, of this action, where there is one, else of this procedure
abbrev pub call_missing : Program → ℕ → Option Action → Option Proc → Bool
call_missing program to (Some action) proc = action_missing 0 to (Some action)
call_missing program to None proc = run_missing program to proc

abbrev pub form_missing : Program → ℕ → Stmt-F Stmt → Bool
form_missing program to (Call callee args results) = call_missing program to (action_named program callee) (proc_named program callee)
form_missing program to (Spawn callee args) = run_missing program to (proc_named program callee)
form_missing program to _ = false

abbrev pub stmt_missing : Program → Proc → Stmt → Bool
stmt_missing program proc stmt = form_missing program (life_end program proc.refines) (out-Stmt stmt)

-- the refined action in the procedure's own layer
abbrev pub refines_missing : Program → Option Refines → Bool
refines_missing program None = false
refines_missing program (Some refines) = action_missing refines.layer refines.layer (action_named program refines.action)

abbrev pub thread_missing : Program → Thread → Bool
thread_missing program thread = run_missing program program.layers (proc_named program thread.callee)
