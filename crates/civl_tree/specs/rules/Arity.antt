-- E23, Arity: a wrong number of arguments or results, an output without an update, or outputs of a procedure that is
-- to run as a thread.
use Rattle.std.specs.Prelude.{Bool, false, not, ◌||◌, nat_eq, List, length, Option, None, Some}
use Rattle.std.specs.List.{list_any}
use Rattle.civl_tree.specs.declared.name.Name.{Name}
use Rattle.civl_tree.specs.declared.expr.Expr.{Expr}
use Rattle.civl_tree.specs.declared.stmt.Stmt.{Stmt, out-Stmt}
use Rattle.civl_tree.specs.declared.stmt.Stmt.TheOpen.{Stmt-F, Call, Spawn}
use Rattle.civl_tree.specs.declared.action.Action.{Action}
use Rattle.civl_tree.specs.declared.program.Refines.{Refines}
use Rattle.civl_tree.specs.declared.program.Proc.{Proc}
use Rattle.civl_tree.specs.declared.program.Program.{Program}
use Rattle.civl_tree.specs.rules.Names.{Signature, has_name, param_names, targets_of, action_named, proc_named, callee_signature}

-- the number of these isn't that of those
abbrev pub differs_in_length : {A B : Type 0} → List A → List B → Bool
differs_in_length these those = not (nat_eq (length these) (length those))

-- an output of the action has no update
abbrev pub action_arity : Action → Bool
action_arity action = list_any (λ out. not (has_name (targets_of action) out)) (param_names action.outs)

-- `with` has a value for each choice of this action, where there is one
abbrev pub with_arity : List Expr → Option Action → Bool
with_arity values None = false
with_arity values (Some action) = differs_in_length values action.choices

abbrev pub refines_arity : Program → Option Refines → Bool
refines_arity program None = false
refines_arity program (Some refines) = with_arity refines.with (action_named program refines.action)

-- a call with these arguments and results
abbrev pub call_arity : List Expr → List Name → Option Signature → Bool
call_arity args results None = false
call_arity args results (Some signature) = differs_in_length args signature.params || differs_in_length results signature.outs

-- a thread that is to run this procedure with these arguments
abbrev pub thread_arity : List Expr → Option Proc → Bool
thread_arity args None = false
thread_arity args (Some proc) = differs_in_length args proc.params || not (nat_eq (length proc.outs) 0)

abbrev pub form_arity : Program → Stmt-F Stmt → Bool
form_arity program (Call callee args results) = call_arity args results (callee_signature program callee)
form_arity program (Spawn callee args) = thread_arity args (proc_named program callee)
form_arity program _ = false

abbrev pub stmt_arity : Program → Stmt → Bool
stmt_arity program stmt = form_arity program (out-Stmt stmt)
