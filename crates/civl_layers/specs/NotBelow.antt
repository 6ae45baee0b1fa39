-- E32, NotBelow: a procedure of layer n calls one of layer n or more, or a root; a root calls or spawns a root that isn't
-- earlier in the text. So there is no recursion.
use Rattle.std.specs.Prelude.{ℕ, Bool, true, false, not, nat_le, List, take, Option, None, Some}
use Rattle.civl_tree.specs.declared.stmt.Stmt.{Stmt, out-Stmt}
use Rattle.civl_tree.specs.declared.stmt.Stmt.TheOpen.{Stmt-F, Call, Spawn}
use Rattle.civl_tree.specs.declared.action.Action.{Action}
use Rattle.civl_tree.specs.declared.program.Refines.{Refines}
use Rattle.civl_tree.specs.declared.program.Proc.{Proc}
use Rattle.civl_tree.specs.declared.program.Program.{Program}
use Rattle.civl_tree.specs.rules.Names.{has_name, proc_names, action_named, proc_named}

-- this root isn't one of those
abbrev pub not_among : List Proc → Proc → Bool
not_among earlier root = not (has_name (proc_names earlier) root.name)

-- a root, behind these procedures, runs this one
abbrev pub root_runs : List Proc → Proc → Option Refines → Bool
root_runs earlier callee None = not_among earlier callee
root_runs earlier callee (Some refines) = false

-- a procedure of this layer runs one
abbrev pub layered_runs : ℕ → Option Refines → Bool
layered_runs layer None = true
layered_runs layer (Some refines) = nat_le layer refines.layer

-- a procedure behind those calls this one
abbrev pub calls_proc : List Proc → Option Refines → Proc → Bool
calls_proc earlier None callee = root_runs earlier callee callee.refines
calls_proc earlier (Some refines) callee = layered_runs refines.layer callee.refines

-- a procedure behind those spawns this one; a spawn in one with `refines` is no fault of this rule
abbrev pub spawns_proc : List Proc → Option Refines → Proc → Bool
spawns_proc earlier None callee = root_runs earlier callee callee.refines
spawns_proc earlier (Some refines) callee = false

-- the same of a procedure that may not be declared
abbrev pub calls_option : List Proc → Option Refines → Option Proc → Bool
calls_option earlier refines None = false
calls_option earlier refines (Some callee) = calls_proc earlier refines callee

abbrev pub spawns_option : List Proc → Option Refines → Option Proc → Bool
spawns_option earlier refines None = false
spawns_option earlier refines (Some callee) = spawns_proc earlier refines callee

-- a call of this action, where there is one, else of this procedure
abbrev pub call_not_below : List Proc → Option Refines → Option Action → Option Proc → Bool
call_not_below earlier refines (Some action) proc = false
call_not_below earlier refines None proc = calls_option earlier refines proc

abbrev pub form_not_below : Program → List Proc → Option Refines → Stmt-F Stmt → Bool
form_not_below program earlier refines (Call callee args results) = call_not_below earlier refines (action_named program callee) (proc_named program callee)
form_not_below program earlier refines (Spawn callee args) = spawns_option earlier refines (proc_named program callee)
form_not_below program earlier refines _ = false

-- a statement of the procedure at this place
abbrev pub stmt_not_below : Program → ℕ → Proc → Stmt → Bool
stmt_not_below program place proc stmt = form_not_below program (take place program.procs) proc.refines (out-Stmt stmt)
