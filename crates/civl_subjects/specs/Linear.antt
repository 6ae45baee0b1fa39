-- E40, E41 and E43: the argument or the name that a rule on linear names is about.
use Rattle.std.specs.Prelude.{ℕ, Bool, if◌then◌else◌, List, [], ◌∷◌, Option, None, Some, option_and_then, slice_get}
use Rattle.std.specs.List.{find}
use Rattle.std.specs.Option.{option_or}
use Rattle.civl_tree.specs.declared.name.Name.{Name}
use Rattle.civl_tree.specs.declared.expr.Expr.{Expr}
use Rattle.civl_tree.specs.declared.stmt.Stmt.{Stmt, out-Stmt}
use Rattle.civl_tree.specs.declared.stmt.Stmt.TheOpen.{Stmt-F, Assign, Call, Spawn}
use Rattle.civl_tree.specs.declared.action.Param.{Param}
use Rattle.civl_tree.specs.declared.program.Proc.{Proc}
use Rattle.civl_tree.specs.declared.program.Program.{Program}
use Rattle.civl_tree.specs.rules.Names.{Signature, names_in_proc, proc_named, proc_signature_of, callee_signature}
use Rattle.civl_linear.specs.Modes.{is_passed, is_taken, at_modes, passed_names, given_names}
use Rattle.civl_linear.specs.Held.{holds, without_names, traced_proc}
use Rattle.civl_linear.specs.Places.{not_held, misgiven}
use Rattle.civl_subjects.specs.Twice.{first_again}

-- what a procedure holds before the statement with this number
abbrev pub held_before : Program → Proc → ℕ → Option (List Bool)
held_before program proc number = slice_get (traced_proc program proc).befores number

-- ---- E40

-- the first argument for a linear parameter that isn't a held linear name
abbrev pub first_not_held : Proc → List Bool → Option Signature → List Expr → Option Expr
first_not_held proc held None args = None
first_not_held proc held (Some signature) args = find (not_held proc (names_in_proc proc) held) (at_modes is_passed signature.params args)

abbrev pub form_not_held : Program → Proc → Stmt-F Stmt → List Bool → Option Expr
form_not_held program proc (Call callee args results) held = first_not_held proc held (callee_signature program callee) args
form_not_held program proc (Spawn callee args) held = first_not_held proc held (proc_signature_of (proc_named program callee)) args
form_not_held program proc _ held = None

abbrev pub stmt_not_held : Program → Proc → ℕ → Stmt → Option Expr
stmt_not_held program proc number stmt = option_and_then (form_not_held program proc (out-Stmt stmt)) (held_before program proc number)

-- ---- E41

-- the first name that stands for a linear parameter again
abbrev pub passed_again : Option Signature → List Expr → Option Name
passed_again None args = None
passed_again (Some signature) args = first_again [] (passed_names is_passed signature.params args)

-- the first result of a `give` output that is held after the takes
abbrev pub given_again : Proc → List Bool → Option Signature → List Expr → List Name → Option Name
given_again proc held None args results = None
given_again proc held (Some signature) args results =
    find (holds (names_in_proc proc) (without_names (passed_names is_taken signature.params args) (names_in_proc proc) held))
    (given_names signature.outs results)

abbrev pub form_held_twice : Program → Proc → Stmt-F Stmt → List Bool → Option Name
form_held_twice program proc (Call callee args results) held =
    option_or (passed_again (callee_signature program callee) args) (given_again proc held (callee_signature program callee) args results)
form_held_twice program proc (Spawn callee args) held = passed_again (proc_signature_of (proc_named program callee)) args
form_held_twice program proc _ held = None

abbrev pub stmt_held_twice : Program → Proc → ℕ → Stmt → Option Name
stmt_held_twice program proc number stmt = option_and_then (form_held_twice program proc (out-Stmt stmt)) (held_before program proc number)

-- ---- E43

-- the first result that the output in its place may not go to
abbrev pub first_misgiven : Proc → List Param → List Name → Option Name
first_misgiven proc [] results = None
first_misgiven proc (out ∷ outs) [] = None
first_misgiven proc (out ∷ outs) (result ∷ results) =
    if misgiven proc out.mode result then Some result else first_misgiven proc outs results

abbrev pub call_misgiven : Proc → Option Signature → List Name → Option Name
call_misgiven proc None results = None
call_misgiven proc (Some signature) results = first_misgiven proc signature.outs results

-- the target of an assignment, or a result
abbrev pub form_assigned : Program → Proc → Stmt-F Stmt → Option Name
form_assigned program proc (Assign target value) = Some target
form_assigned program proc (Call callee args results) = call_misgiven proc (callee_signature program callee) results
form_assigned program proc _ = None

abbrev pub stmt_assigned : Program → Proc → Stmt → Option Name
stmt_assigned program proc stmt = form_assigned program proc (out-Stmt stmt)
