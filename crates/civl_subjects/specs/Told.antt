-- What a refusal is about: of each rule, in each kind of part, what is told of it.
use Rattle.std.specs.Prelude.{ℕ, nat_eq, nat_lt, if◌then◌else◌, List, [], ◌++◌, Option, None, Some, option_and_then, codes}
use Rattle.std.specs.Option.{option_or, option_map}
use Rattle.civl_tree.specs.declared.name.Name.{Name}
use Rattle.civl_tree.specs.declared.expr.Expr.{Expr}
use Rattle.civl_tree.specs.declared.stmt.Stmt.{Stmt}
use Rattle.civl_tree.specs.declared.action.Action.{Action}
use Rattle.civl_tree.specs.declared.program.Global.{Global}
use Rattle.civl_tree.specs.declared.program.Invariant.{Invariant}
use Rattle.civl_tree.specs.declared.program.Proc.{Proc}
use Rattle.civl_tree.specs.declared.program.Thread.{Thread}
use Rattle.civl_tree.specs.declared.program.Program.{Program}
use Rattle.civl_tree.specs.declared.refusal.Refusal.{Refusal}
use Rattle.civl_tree.specs.Numbering.{header_item, statement_at}
use Rattle.civl_tree.specs.rules.Count.{global_limit, invariant_limit, thread_limit}
use Rattle.civl_layers.specs.Names.{global_range, action_range}
use Rattle.civl_subjects.specs.declared.code.Code.{Code}
use Rattle.civl_subjects.specs.declared.code.Code.TheVariants.{E10, E11, E12, E20, E21, E22, E23, E24, E30, E31, E32, E33, E34, E35, E40, E41, E43, E50, E51, E52, E53}
use Rattle.civl_subjects.specs.declared.subject.Limited.TheVariants.{Globals, Invariants, Threads}
use Rattle.civl_subjects.specs.declared.expr_rule.ExprRule.TheVariants.{Unknown, Width, Sorts, Index}
use Rattle.civl_subjects.specs.Subjects.{Subject, OfName, OfExpr, OfStatement}
use Rattle.civl_subjects.specs.Texts.{subject_text}
use Rattle.civl_subjects.specs.Parts.{Part, GlobalPart, InitPart, InvariantPart, ActionPart, ProcPart, ThreadPart, part_at}
use Rattle.civl_subjects.specs.Twice.{global_again, action_again, proc_again, stmt_again}
use Rattle.civl_subjects.specs.Places.{global_subject, init_subject, invariant_subject, action_subject, proc_subject, stmt_subject, thread_subject}
use Rattle.civl_subjects.specs.Counts.{header_subject, limit_subject, action_limits, proc_limits, action_arity, refines_count, stmt_count, thread_count, size_subject}
use Rattle.civl_subjects.specs.Layers.{range_subject, step_subject, refines_step, action_hidden, invariant_hidden, with_hidden, stmt_hidden, stmt_callee, refines_absent, stmt_absent, thread_absent, proc_signature, stmt_introduced}
use Rattle.civl_subjects.specs.Linear.{stmt_not_held, stmt_held_twice, stmt_assigned}
use Rattle.civl_subjects.specs.Kinds.{stmt_pauses, stmt_misplaced}
use Rattle.civl_subjects.specs.Strays.{first_stray, any_stray, action_stray, refines_stray, stmt_stray}
use Rattle.civl_yields.specs.Places.{no_leave}

-- ---- codes

-- the rules of which something is told, by the numbers of their codes
abbrev pub names_code : ℕ → Option Code
names_code code = if nat_eq code 10 then Some E10 else if nat_eq code 11 then Some E11 else if nat_eq code 12 then Some E12 else None

abbrev pub sorts_code : ℕ → Option Code
sorts_code code =
    if nat_eq code 20 then Some E20 else if nat_eq code 21 then Some E21 else if nat_eq code 22 then Some E22
    else if nat_eq code 23 then Some E23 else if nat_eq code 24 then Some E24 else None

abbrev pub layers_code : ℕ → Option Code
layers_code code =
    if nat_eq code 30 then Some E30 else if nat_eq code 31 then Some E31 else if nat_eq code 32 then Some E32
    else if nat_eq code 33 then Some E33 else if nat_eq code 34 then Some E34 else if nat_eq code 35 then Some E35 else None

abbrev pub other_code : ℕ → Option Code
other_code code =
    if nat_eq code 40 then Some E40 else if nat_eq code 41 then Some E41 else if nat_eq code 43 then Some E43
    else if nat_eq code 50 then Some E50 else if nat_eq code 51 then Some E51 else if nat_eq code 52 then Some E52
    else if nat_eq code 53 then Some E53 else None

-- of the rule E42 nothing is told
abbrev pub code_of : ℕ → Option Code
code_of code =
    if nat_lt code 20 then names_code code else if nat_lt code 30 then sorts_code code
    else if nat_lt code 40 then layers_code code else other_code code

-- ---- parts

abbrev pub name_told : Option Name → Option Subject
name_told name = option_map OfName name

abbrev pub expr_told : Option Expr → Option Subject
expr_told expr = option_map OfExpr expr

abbrev pub in_global : Code → Program → ℕ → Global → Option Subject
in_global E10 program place global = name_told (global_again program place global)
in_global E12 program place global = limit_subject Globals global_limit place
in_global E20 program place global = global_subject Width program global
in_global E22 program place global = global_subject Index program global
in_global E24 program place global = size_subject global
in_global E30 program place global = range_subject program (global_range global)
in_global E35 program place global = Some (OfName global.name)
in_global _ program place global = None

abbrev pub in_init : Code → Program → Option Subject
in_init E11 program = init_subject Unknown program
in_init E20 program = init_subject Width program
in_init E21 program = init_subject Sorts program
in_init E22 program = init_subject Index program
in_init E53 program = expr_told (first_stray no_leave program.init)
in_init _ program = None

abbrev pub in_invariant : Code → Program → ℕ → Invariant → Option Subject
in_invariant E11 program place invariant = invariant_subject Unknown program invariant
in_invariant E12 program place invariant = limit_subject Invariants invariant_limit place
in_invariant E20 program place invariant = invariant_subject Width program invariant
in_invariant E21 program place invariant = invariant_subject Sorts program invariant
in_invariant E22 program place invariant = invariant_subject Index program invariant
in_invariant E30 program place invariant = step_subject program invariant.step
in_invariant E31 program place invariant = name_told (invariant_hidden program invariant)
in_invariant E53 program place invariant = expr_told (first_stray no_leave invariant.expr)
in_invariant _ program place invariant = None

abbrev pub in_action : Code → Program → ℕ → Action → Option Subject
in_action E10 program place action = name_told (action_again program place action)
in_action E11 program place action = action_subject Unknown program action
in_action E12 program place action = action_limits place action
in_action E20 program place action = action_subject Width program action
in_action E21 program place action = action_subject Sorts program action
in_action E22 program place action = action_subject Index program action
in_action E23 program place action = action_arity action
in_action E30 program place action = range_subject program (action_range action)
in_action E31 program place action = name_told (action_hidden program action)
in_action E53 program place action = expr_told (action_stray action)
in_action _ program place action = None

-- a procedure up to its statements
abbrev pub in_head : Code → Program → ℕ → Proc → Option Subject
in_head E10 program place proc = name_told (proc_again program place proc)
in_head E11 program place proc = proc_subject Unknown program proc
in_head E12 program place proc = proc_limits place proc
in_head E20 program place proc = proc_subject Width program proc
in_head E21 program place proc = proc_subject Sorts program proc
in_head E22 program place proc = proc_subject Index program proc
in_head E23 program place proc = refines_count program proc.refines
in_head E30 program place proc = refines_step program proc.refines
in_head E31 program place proc = name_told (with_hidden program proc.refines)
in_head E33 program place proc = name_told (refines_absent program proc.refines)
in_head E34 program place proc = proc_signature program proc
in_head E53 program place proc = expr_told (refines_stray proc.refines)
in_head _ program place proc = None

-- the statement of a procedure that has this number
abbrev pub in_statement : Code → Program → Proc → ℕ → Stmt → Option Subject
in_statement E10 program proc number stmt = name_told (stmt_again stmt)
in_statement E11 program proc number stmt = stmt_subject Unknown program proc stmt
in_statement E20 program proc number stmt = stmt_subject Width program proc stmt
in_statement E21 program proc number stmt = stmt_subject Sorts program proc stmt
in_statement E22 program proc number stmt = stmt_subject Index program proc stmt
in_statement E23 program proc number stmt = stmt_count program stmt
in_statement E31 program proc number stmt = name_told (stmt_hidden program proc.refines stmt)
in_statement E32 program proc number stmt = name_told (stmt_callee stmt)
in_statement E33 program proc number stmt = name_told (stmt_absent program proc stmt)
in_statement E35 program proc number stmt = name_told (stmt_introduced stmt)
in_statement E40 program proc number stmt = expr_told (stmt_not_held program proc number stmt)
in_statement E41 program proc number stmt = name_told (stmt_held_twice program proc number stmt)
in_statement E43 program proc number stmt = name_told (stmt_assigned program proc stmt)
in_statement E50 program proc number stmt = name_told (stmt_callee stmt)
in_statement E51 program proc number stmt = option_map OfStatement (stmt_pauses stmt)
in_statement E52 program proc number stmt = stmt_misplaced proc stmt
in_statement E53 program proc number stmt = expr_told (stmt_stray proc stmt)
in_statement _ program proc number stmt = None

-- a procedure as a whole, and then the statement with this number
abbrev pub in_proc : Code → Program → ℕ → Proc → ℕ → Option Subject
in_proc code program place proc number =
    option_or (in_head code program place proc) (option_and_then (in_statement code program proc number) (statement_at proc.body number))

abbrev pub in_thread : Code → Program → ℕ → Thread → Option Subject
in_thread E11 program place thread = thread_subject Unknown program thread
in_thread E12 program place thread = limit_subject Threads thread_limit place
in_thread E20 program place thread = thread_subject Width program thread
in_thread E21 program place thread = thread_subject Sorts program thread
in_thread E22 program place thread = thread_subject Index program thread
in_thread E23 program place thread = thread_count program thread
in_thread E33 program place thread = name_told (thread_absent program thread)
in_thread E53 program place thread = expr_told (any_stray thread.args)
in_thread _ program place thread = None

-- what is told of the part, or of the statement of a procedure that has this number
abbrev pub in_part : Code → Program → ℕ → Part → Option Subject
in_part code program number (GlobalPart place global) = in_global code program place global
in_part code program number InitPart = in_init code program
in_part code program number (InvariantPart place invariant) = in_invariant code program place invariant
in_part code program number (ActionPart place action) = in_action code program place action
in_part code program number (ProcPart place proc) = in_proc code program place proc number
in_part code program number (ThreadPart place thread) = in_thread code program place thread

-- the numbers of the header stand before all items
abbrev pub in_header : Code → Program → ℕ → Option Subject
in_header E12 program item = if nat_eq item header_item then header_subject program else None
in_header _ program item = None

abbrev pub subject_of : Program → Refusal → Code → Option Subject
subject_of program refusal code =
    option_or (in_header code program refusal.item)
    (option_and_then (in_part code program refusal.statement) (part_at program refusal.item))

-- ---- the subject

-- what a refusal is about
abbrev pub subject : Program → Refusal → Option Subject
subject program refusal = option_and_then (subject_of program refusal) (code_of refusal.code)

-- behind the sentence of a rule `: ` and the text of the subject, or nothing
abbrev pub told_text : Option Subject → List ℕ
told_text None = []
told_text (Some subject) = codes ": " ++ subject_text subject
