-- E30 to E35: the range, the layer or the name that a rule on layers is about.
use Rattle.std.specs.Prelude.{ℕ, Bool, ◌&&◌, if◌then◌else◌, List, [], ◌∷◌, length, Option, None, Some}
use Rattle.std.specs.Option.{option_or, option_map}
use Rattle.civl_tree.specs.declared.name.Name.{Name}
use Rattle.civl_tree.specs.declared.expr.Expr.{Expr}
use Rattle.civl_tree.specs.declared.expr.Expr.TheOpen as expr
use Rattle.civl_tree.specs.declared.expr.Expr.TheFolds.{fold-Expr}
use Rattle.civl_tree.specs.declared.stmt.Stmt.{Stmt, out-Stmt}
use Rattle.civl_tree.specs.declared.stmt.Stmt.TheOpen.{Stmt-F, YieldLoop, RankLoop, Call, Yield, Intro, Spawn}
use Rattle.civl_tree.specs.declared.action.Param.{Param}
use Rattle.civl_tree.specs.declared.action.Update.{Update}
use Rattle.civl_tree.specs.declared.action.Action.{Action}
use Rattle.civl_tree.specs.declared.program.Invariant.{Invariant}
use Rattle.civl_tree.specs.declared.program.Refines.{Refines}
use Rattle.civl_tree.specs.declared.program.Proc.{Proc}
use Rattle.civl_tree.specs.declared.program.Thread.{Thread}
use Rattle.civl_tree.specs.declared.program.Program.{Program}
use Rattle.civl_tree.specs.rules.Names.{proc_named}
use Rattle.civl_tree.specs.rules.Sorts.{same_sort}
use Rattle.civl_tree.specs.rules.Signature.{same_mode}
use Rattle.civl_layers.specs.Ranges.{Range}
use Rattle.civl_layers.specs.Hidden.{hidden_in_action, hidden_at_step}
use Rattle.civl_layers.specs.NotThere.{refines_missing, stmt_missing, thread_missing}
use Rattle.civl_yields.specs.Movers.{called_action, proc_action, refined_action}
use Rattle.civl_subjects.specs.declared.subject.Counted.{Counted}
use Rattle.civl_subjects.specs.declared.subject.Counted.TheVariants.{Parameters, Outputs}
use Rattle.civl_subjects.specs.Subjects.{Subject, OfRange, OfStep, OfParam}
use Rattle.civl_subjects.specs.Parts.{first_told}
use Rattle.civl_subjects.specs.Counts.{count_subject}

-- ---- E30

abbrev pub range_subject : Program → Range → Option Subject
range_subject program range = Some (OfRange range.first range.last program.layers)

abbrev pub step_subject : Program → ℕ → Option Subject
step_subject program step = Some (OfStep step program.layers)

abbrev pub refines_step : Program → Option Refines → Option Subject
refines_step program None = None
refines_step program (Some refines) = step_subject program refines.layer

-- ---- E31

-- an expression by its form: the first name, plain or in `old(name)`, that passes a test
abbrev pub use_step : (Name → Bool) → expr.Expr-F (Option Name) → Option Name
use_step test (expr.Name name) = if test name then Some name else None
use_step test (expr.Old name) = if test name then Some name else None
use_step test (expr.One op part) = part
use_step test (expr.Two op first second) = option_or first second
use_step test (expr.Pick condition first second) = option_or condition (option_or first second)
use_step test (expr.Get row at) = option_or row at
use_step test (expr.Set row at cell) = option_or row (option_or at cell)
use_step test (expr.Fill index cell) = cell
use_step test (expr.Slice word high low) = word
use_step test (expr.Widen word wider) = word
use_step test (expr.Join first second) = option_or first second
use_step test _ = None

-- the first name of an expression that passes the test
abbrev pub first_use : (Name → Bool) → Expr → Option Name
first_use test = fold-Expr (Option Name) (use_step test)

-- `name := expr`
abbrev pub update_use : (Name → Bool) → Update → Option Name
update_use test update = option_or (if test update.target then Some update.target else None) (first_use test update.expr)

-- the first name of an action's expressions and targets that passes the test
abbrev pub action_use : (Name → Bool) → Action → Option Name
action_use test action =
    option_or (first_told (λ choice. first_use test choice.offer) action.choices)
    (option_or (first_use test action.gate) (option_or (first_use test action.guard) (first_told (update_use test) action.updates)))

abbrev pub action_hidden : Program → Action → Option Name
action_hidden program action = action_use (hidden_in_action program action) action

abbrev pub invariant_hidden : Program → Invariant → Option Name
invariant_hidden program invariant = first_use (hidden_at_step program invariant.step) invariant.expr

-- the values after `with`
abbrev pub with_hidden : Program → Option Refines → Option Name
with_hidden program None = None
with_hidden program (Some refines) = first_told (first_use (hidden_at_step program refines.layer)) refines.with

-- what a procedure says of the store
abbrev pub form_use : (Name → Bool) → Stmt-F Stmt → Option Name
form_use test (YieldLoop condition inv body) = first_use test inv
form_use test (RankLoop condition rank inv body) = option_or (first_use test rank) (first_use test inv)
form_use test (Yield inv) = first_use test inv
form_use test (Intro target value) = first_use test value
form_use test _ = None

abbrev pub stmt_hidden : Program → Option Refines → Stmt → Option Name
stmt_hidden program None stmt = None
stmt_hidden program (Some refines) stmt = form_use (hidden_at_step program refines.layer) (out-Stmt stmt)

-- ---- E32

-- the callee of a call or a spawn
abbrev pub form_callee : Stmt-F Stmt → Option Name
form_callee (Call callee args results) = Some callee
form_callee (Spawn callee args) = Some callee
form_callee _ = None

abbrev pub stmt_callee : Stmt → Option Name
stmt_callee stmt = form_callee (out-Stmt stmt)

-- ---- E33

abbrev pub name_of_action : Option Action → Option Name
name_of_action action = option_map (λ action. action.name) action

-- the refined action, where it doesn't exist in the procedure's layer
abbrev pub refines_absent : Program → Option Refines → Option Name
refines_absent program refines = if refines_missing program refines then name_of_action (refined_action program refines) else None

-- the action that is called, or that of the procedure which is called or spawned
abbrev pub form_absent : Program → Stmt-F Stmt → Option Name
form_absent program (Call callee args results) = name_of_action (called_action program callee)
form_absent program (Spawn callee args) = name_of_action (proc_action program (proc_named program callee))
form_absent program _ = None

-- that one, where it doesn't exist as long as the procedure, or as long as a thread
abbrev pub stmt_absent : Program → Proc → Stmt → Option Name
stmt_absent program proc stmt = if stmt_missing program proc stmt then form_absent program (out-Stmt stmt) else None

abbrev pub run_absent : Program → Thread → Option Name
run_absent program thread = name_of_action (proc_action program (proc_named program thread.callee))

abbrev pub thread_absent : Program → Thread → Option Name
thread_absent program thread = if thread_missing program thread then run_absent program thread else None

-- ---- E34

-- the first of these parameters that differs from that of the action in its place
abbrev pub first_differing : List Param → List Param → Option Subject
first_differing [] others = None
first_differing (param ∷ params) [] = None
first_differing (param ∷ params) (other ∷ others) =
    if same_mode param.mode other.mode && same_sort param.sort other.sort then first_differing params others else Some (OfParam param other)

-- how many there are, where the numbers differ; else the first that differs
abbrev pub differing : Counted → List Param → List Param → Option Subject
differing counted params others = option_or (count_subject counted (length params) (length others)) (first_differing params others)

-- the parameters, then the outputs
abbrev pub signature_subject : Proc → Option Action → Option Subject
signature_subject proc None = None
signature_subject proc (Some action) = option_or (differing Parameters proc.params action.params) (differing Outputs proc.outs action.outs)

abbrev pub proc_signature : Program → Proc → Option Subject
proc_signature program proc = signature_subject proc (refined_action program proc.refines)

-- ---- E35

-- the target of an `intro`
abbrev pub form_introduced : Stmt-F Stmt → Option Name
form_introduced (Intro target value) = Some target
form_introduced _ = None

abbrev pub stmt_introduced : Stmt → Option Name
stmt_introduced stmt = form_introduced (out-Stmt stmt)
