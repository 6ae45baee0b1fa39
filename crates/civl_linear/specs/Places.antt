-- Where the rules on linear locals are broken: E40, NotHeld; E41, HeldTwice; E42, NotReturned; E43, Assigned.
use Rattle.std.specs.Prelude.{Bool, false, not, ◌&&◌, ◌||◌, List, [], ◌∷◌, Option, None, Some, if◌then◌else◌}
use Rattle.std.specs.List.{list_any}
use Rattle.civl_tree.specs.declared.name.Name.{Name}
use Rattle.civl_tree.specs.declared.expr.Expr.{Expr}
use Rattle.civl_tree.specs.declared.action.Mode.{Mode}
use Rattle.civl_tree.specs.declared.action.Param.{Param}
use Rattle.civl_tree.specs.declared.stmt.Stmt.{Stmt, out-Stmt}
use Rattle.civl_tree.specs.declared.stmt.Stmt.TheOpen.{Stmt-F, Assign, Call, Spawn}
use Rattle.civl_tree.specs.declared.program.Proc.{Proc}
use Rattle.civl_tree.specs.declared.program.Program.{Program}
use Rattle.civl_tree.specs.rules.Names.{Signature, same_name, has_name, any_twice, param_names, proc_named, proc_signature_of, callee_signature}
use Rattle.civl_linear.specs.Modes.{is_passed, is_taken, is_given, at_modes, plain_name, passed_names, given_names}
use Rattle.civl_linear.specs.Held.{holds, without_names, covers, exit_owed}

-- ---- the names of a procedure

-- one of these is this name, and passes linear values in
abbrev pub passes_in : List Param → Name → Bool
passes_in params name = list_any (λ param. is_passed param.mode && same_name param.name name) params

-- one of these outputs is this name, and gives a linear value
abbrev pub gives_out : List Param → Name → Bool
gives_out outs name = list_any (λ out. is_given out.mode && same_name out.name name) outs

-- a linear local
abbrev pub is_linear_local : Proc → Name → Bool
is_linear_local proc name = list_any (λ declared. declared.linear && same_name declared.name name) proc.locals

-- what may stand for a lend or take parameter: a linear local, or a lend or take parameter
abbrev pub may_pass : Proc → Name → Bool
may_pass proc name = is_linear_local proc name || passes_in proc.params name

abbrev pub is_param : Proc → Name → Bool
is_param proc name = has_name (param_names proc.params) name

-- what may get a linear value: a linear local, or a give output
abbrev pub may_get : Proc → Name → Bool
may_get proc name = is_linear_local proc name || gives_out proc.outs name

-- ---- E40: an argument for a lend or take parameter isn't the plain name of a held linear local, lend or take parameter

-- the plain name, where there is one, is held and may stand for a linear parameter; these are the procedure's names with
-- their flags
abbrev pub is_held_name : Proc → List Name → List Bool → List Name → Bool
is_held_name proc names held [] = false
is_held_name proc names held (name ∷ others) = may_pass proc name && holds names held name

abbrev pub not_held : Proc → List Name → List Bool → Expr → Bool
not_held proc names held arg = not (is_held_name proc names held (plain_name arg))

abbrev pub any_not_held : Proc → List Name → List Bool → Option Signature → List Expr → Bool
any_not_held proc names held None args = false
any_not_held proc names held (Some signature) args = list_any (not_held proc names held) (at_modes is_passed signature.params args)

abbrev pub form_not_held : Program → Proc → List Name → Stmt-F Stmt → List Bool → Bool
form_not_held program proc names (Call callee args results) held = any_not_held proc names held (callee_signature program callee) args
form_not_held program proc names (Spawn callee args) held = any_not_held proc names held (proc_signature_of (proc_named program callee)) args
form_not_held program proc names _ held = false

-- the statement of a procedure with these names, before which this is held
abbrev pub stmt_not_held : Program → Proc → List Name → Stmt → List Bool → Bool
stmt_not_held program proc names stmt held = form_not_held program proc names (out-Stmt stmt) held

-- ---- E41: one local stands for two linear parameters, or a give result goes to what is held after the takes

abbrev pub passed_twice : Option Signature → List Expr → Bool
passed_twice None args = false
passed_twice (Some signature) args = any_twice (passed_names is_passed signature.params args)

-- where this is held before the call
abbrev pub given_to_held : List Name → List Bool → Option Signature → List Expr → List Name → Bool
given_to_held names held None args results = false
given_to_held names held (Some signature) args results =
    list_any (holds names (without_names (passed_names is_taken signature.params args) names held)) (given_names signature.outs results)

abbrev pub form_held_twice : Program → List Name → Stmt-F Stmt → List Bool → Bool
form_held_twice program names (Call callee args results) held =
    passed_twice (callee_signature program callee) args || given_to_held names held (callee_signature program callee) args results
form_held_twice program names (Spawn callee args) held = passed_twice (proc_signature_of (proc_named program callee)) args
form_held_twice program names _ held = false

abbrev pub stmt_held_twice : Program → List Name → Stmt → List Bool → Bool
stmt_held_twice program names stmt held = form_held_twice program names (out-Stmt stmt) held

-- ---- E42: at the exit a lend parameter or give output isn't held; a loop loses what was held at its head

-- at the exit, where this is held
abbrev pub not_returned : Proc → List Bool → Bool
not_returned proc held = not (covers (exit_owed proc) held)

-- ---- E43: an assign or a result to what it may not go to

abbrev pub assigned : Proc → Name → Bool
assigned proc target = may_get proc target || is_param proc target

-- the result of an output of this mode
abbrev pub misgiven : Proc → Mode → Name → Bool
misgiven proc mode result = is_param proc result || (if is_given mode then not (may_get proc result) else may_get proc result)

-- one of these results, each of one of these outputs
abbrev pub any_misgiven : Proc → List Param → List Name → Bool
any_misgiven proc [] results = false
any_misgiven proc (out ∷ outs) [] = false
any_misgiven proc (out ∷ outs) (result ∷ results) = misgiven proc out.mode result || any_misgiven proc outs results

abbrev pub call_misgiven : Proc → Option Signature → List Name → Bool
call_misgiven proc None results = false
call_misgiven proc (Some signature) results = any_misgiven proc signature.outs results

abbrev pub form_assigned : Program → Proc → Stmt-F Stmt → Bool
form_assigned program proc (Assign target value) = assigned proc target
form_assigned program proc (Call callee args results) = call_misgiven proc (callee_signature program callee) results
form_assigned program proc _ = false

abbrev pub stmt_assigned : Program → Proc → Stmt → Bool
stmt_assigned program proc stmt = form_assigned program proc (out-Stmt stmt)
