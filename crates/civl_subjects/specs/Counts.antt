-- E12, E23 and E24: the count or the number that a rule is about.
use Rattle.std.specs.Prelude.{ℕ, ◌+◌, not, nat_eq, nat_lt, if◌then◌else◌, List, length, Option, None, Some}
use Rattle.std.specs.List.{find}
use Rattle.std.specs.Option.{option_or, option_map}
use Rattle.civl_tree.specs.declared.name.Name.{Name}
use Rattle.civl_tree.specs.declared.expr.Expr.{Expr}
use Rattle.civl_tree.specs.declared.stmt.Stmt.{Stmt, out-Stmt}
use Rattle.civl_tree.specs.declared.stmt.Stmt.TheOpen.{Stmt-F, Call, Spawn}
use Rattle.civl_tree.specs.declared.action.Action.{Action}
use Rattle.civl_tree.specs.declared.program.Global.{Global}
use Rattle.civl_tree.specs.declared.program.Refines.{Refines}
use Rattle.civl_tree.specs.declared.program.Proc.{Proc}
use Rattle.civl_tree.specs.declared.program.Thread.{Thread}
use Rattle.civl_tree.specs.declared.program.Program.{Program}
use Rattle.civl_tree.specs.rules.Names.{Signature, has_name, param_names, targets_of, action_named, proc_named, callee_signature}
use Rattle.civl_tree.specs.rules.Count.{is_within, passes_limit, layer_limit, permission_limit, action_limit, proc_limit, name_limit}
use Rattle.civl_subjects.specs.declared.subject.HeaderNumber.TheVariants.{Version, Layers, Permissions}
use Rattle.civl_subjects.specs.declared.subject.Limited.{Limited}
use Rattle.civl_subjects.specs.declared.subject.Limited.TheVariants.{Actions, Procs, Names, Cuts}
use Rattle.civl_subjects.specs.declared.subject.Counted.{Counted}
use Rattle.civl_subjects.specs.declared.subject.Counted.TheVariants.{Arguments, Results, Outputs}
use Rattle.civl_subjects.specs.Subjects.{Subject, OfName, OfSort, OfHeader, OfLimit, OfCount}

-- ---- E12

-- the first number of the header that is out of its range
abbrev pub header_subject : Program → Option Subject
header_subject program =
    if not (is_within 1 2 program.version) then Some (OfHeader Version program.version)
    else if not (is_within 1 layer_limit program.layers) then Some (OfHeader Layers program.layers)
    else if not (is_within 1 permission_limit program.permissions) then Some (OfHeader Permissions program.permissions)
    else None

-- the declaration at this place is the first past the limit of its kind
abbrev pub limit_subject : Limited → ℕ → ℕ → Option Subject
limit_subject limited limit place = if passes_limit limit place then Some (OfLimit limited) else None

-- one action too many, or too many names in it
abbrev pub action_limits : ℕ → Action → Option Subject
action_limits place action =
    if passes_limit action_limit place then Some (OfLimit Actions)
    else if nat_lt name_limit (length action.params + length action.outs + length action.choices) then Some (OfLimit Names)
    else None

-- one procedure too many, or too many names in it; else, where a count is over its limit, it is that of the cut points
abbrev pub proc_limits : ℕ → Proc → Option Subject
proc_limits place proc =
    if passes_limit proc_limit place then Some (OfLimit Procs)
    else if nat_lt name_limit (length proc.params + length proc.outs + length proc.locals) then Some (OfLimit Names)
    else Some (OfLimit Cuts)

-- ---- E23

-- the numbers of these and those, where they differ
abbrev pub count_subject : Counted → ℕ → ℕ → Option Subject
count_subject counted found needed = if nat_eq found needed then None else Some (OfCount counted found needed)

-- the first output that has no update
abbrev pub action_arity : Action → Option Subject
action_arity action = option_map OfName (find (λ out. not (has_name (targets_of action) out)) (param_names action.outs))

-- the values after `with`, for the choices of this action
abbrev pub with_count : List Expr → Option Action → Option Subject
with_count values None = None
with_count values (Some action) = count_subject Arguments (length values) (length action.choices)

abbrev pub refines_count : Program → Option Refines → Option Subject
refines_count program None = None
refines_count program (Some refines) = with_count refines.with (action_named program refines.action)

-- the arguments, then the results
abbrev pub call_count : List Expr → List Name → Option Signature → Option Subject
call_count args results None = None
call_count args results (Some signature) =
    option_or (count_subject Arguments (length args) (length signature.params))
    (count_subject Results (length results) (length signature.outs))

-- the arguments, then the outputs of a procedure that is to run as a thread
abbrev pub run_count : List Expr → Option Proc → Option Subject
run_count args None = None
run_count args (Some proc) =
    option_or (count_subject Arguments (length args) (length proc.params)) (count_subject Outputs (length proc.outs) 0)

abbrev pub form_count : Program → Stmt-F Stmt → Option Subject
form_count program (Call callee args results) = call_count args results (callee_signature program callee)
form_count program (Spawn callee args) = run_count args (proc_named program callee)
form_count program _ = None

abbrev pub stmt_count : Program → Stmt → Option Subject
stmt_count program stmt = form_count program (out-Stmt stmt)

abbrev pub thread_count : Program → Thread → Option Subject
thread_count program thread = run_count thread.args (proc_named program thread.callee)

-- ---- E24

-- the global with which there are too many bits
abbrev pub size_subject : Global → Option Subject
size_subject global = Some (OfSort global.name global.sort)
