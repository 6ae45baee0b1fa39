-- What is told of a refusal is what its rule speaks of: E10, E11, E31 and E33.
use Rattle.std.specs.Prelude.{ℕ, ◌≡◌, ◌⊎◌, true, false, List, [], ◌∷◌, ◌++◌, Option, None, Some, take}
use Rattle.std.specs.List.{Contains}
use Rattle.civl_tree.specs.declared.name.Name.{Name}
use Rattle.civl_tree.specs.declared.expr.Expr.{Expr}
use Rattle.civl_tree.specs.declared.expr.Expr as tree
use Rattle.civl_tree.specs.declared.stmt.Stmt.{Stmt, out-Stmt}
use Rattle.civl_tree.specs.declared.stmt.Stmt.TheOpen.{Stmt-F, Assign, Call, Intro, Spawn, YieldLoop, RankLoop, Yield}
use Rattle.civl_tree.specs.declared.action.Choice.{Choice}
use Rattle.civl_tree.specs.declared.action.Update.{Update}
use Rattle.civl_tree.specs.declared.action.Action.{Action}
use Rattle.civl_tree.specs.declared.program.Refines.{Refines}
use Rattle.civl_tree.specs.declared.program.Proc.{Proc}
use Rattle.civl_tree.specs.declared.program.Program.{Program}
use Rattle.civl_tree.specs.declared.refusal.Refusal.{Refusal}
use Rattle.civl_tree.specs.Numbering.{statement_at}
use Rattle.civl_tree.specs.rules.Names.{same_name, has_name, global_names, action_names, proc_names, names_in_action, names_in_proc, targets_of, action_named, proc_named, callee_signature}
use Rattle.civl_tree.specs.rules.Scopes.{Scope, sort_in}
use Rattle.civl_tree.specs.rules.Unknown.{target_unknown, place_unknown}
use Rattle.civl_tree.specs.rules.Uses.{Use, init_uses, invariant_uses, action_uses, with_uses, stmt_uses, thread_uses}
use Rattle.civl_layers.specs.Names.{uses}
use Rattle.civl_layers.specs.Hidden.{hidden_in_action, hidden_at_step}
use Rattle.civl_layers.specs.NotThere.{refines_missing, stmt_missing, thread_missing}
use Rattle.civl_yields.specs.Movers.{refined_action}
use Rattle.civl_subjects.specs.Layers.{name_of_action, form_absent, run_absent}
use Rattle.civl_subjects.specs.Subjects.{Subject, OfName}
use Rattle.civl_subjects.specs.Parts.{Part, GlobalPart, InitPart, InvariantPart, ActionPart, ProcPart, ThreadPart, part_at, parts_of}
use Rattle.civl_subjects.specs.Told.{subject}

-- what is told of the refusal is a name of which this holds in the part that it names, or in the statement with its number
pub record TellsName (holds : Program → ℕ → Part → Name → Type 0) (program : Program) (refusal : Refusal) (told : Subject) : Type 0 where
  pub part : Part
  pub name : Name
  pub there : part_at program refusal.item ≡ Some part
  pub told_is : told ≡ OfName name
  pub held : holds program refusal.statement part name

-- so it is of each refusal with this code of which something is told
abbrev pub NameIsTold : ℕ → (Program → ℕ → Part → Name → Type 0) → Type 0
NameIsTold code holds =
    (program : Program) (refusal : Refusal) (told : Subject) → refusal.code ≡ code → subject program refusal ≡ Some told
    → TellsName holds program refusal told

-- ---- E11

-- a part of the expression is this name, plain or in `old(name)`, and there it isn't in scope
pub data Lacks (scope : Scope) (expr : Expr) (name : Name) : Type 0 where
  Plainly : Contains (parts_of expr) (tree.Name name) → sort_in scope.names name ≡ None → Lacks scope expr name
  InOld : Contains (parts_of expr) (tree.Old name) → sort_in scope.olds name ≡ None → Lacks scope expr name

-- one of these expressions has the name, which isn't in its scope
abbrev pub AnyLacks : List Use → Name → Type 0
AnyLacks uses name = (use_of : Use) × Contains uses use_of × Lacks use_of.scope use_of.expression name

-- the name is a target, a callee or a result of the statement, and isn't what is needed there
abbrev pub UnknownInForm : Program → Proc → Stmt-F Stmt → Name → Type 0
UnknownInForm program proc (Assign target value) name = (target ≡ name) × (place_unknown proc target ≡ true)
UnknownInForm program proc (Call callee args results) name =
    ((callee ≡ name) × (callee_signature program callee ≡ None)) ⊎ (Contains results name × (place_unknown proc name ≡ true))
UnknownInForm program proc (Intro target value) name = (target ≡ name) × (has_name (global_names program.globals) target ≡ false)
UnknownInForm program proc (Spawn callee args) name = (callee ≡ name) × (proc_named program callee ≡ None)
UnknownInForm program proc _ name = ⊥

abbrev pub UnknownInStmt : Program → Proc → Stmt → Name → Type 0
UnknownInStmt program proc stmt name = UnknownInForm program proc (out-Stmt stmt) name ⊎ AnyLacks (stmt_uses program proc stmt) name

-- the name behind `refines` is no action
abbrev pub UnknownRefined : Program → Option Refines → Name → Type 0
UnknownRefined program None name = ⊥
UnknownRefined program (Some refines) name = (refines.action ≡ name) × (action_named program refines.action ≡ None)

-- the name stands in the part, or in the statement of a procedure that has this number, and isn't in scope as what is
-- needed there
abbrev pub UnknownIn : Program → ℕ → Part → Name → Type 0
UnknownIn program number (GlobalPart place global) name = ⊥
UnknownIn program number InitPart name = AnyLacks (init_uses program) name
UnknownIn program number (InvariantPart place invariant) name = AnyLacks (invariant_uses program invariant) name
UnknownIn program number (ActionPart place action) name =
    (Contains (targets_of action) name × (target_unknown program action name ≡ true)) ⊎ AnyLacks (action_uses program action) name
UnknownIn program number (ProcPart place proc) name =
    (UnknownRefined program proc.refines name ⊎ AnyLacks (with_uses program proc proc.refines) name)
    ⊎ ((stmt : Stmt) × (statement_at proc.body number ≡ Some stmt) × UnknownInStmt program proc stmt name)
UnknownIn program number (ThreadPart place thread) name =
    ((thread.callee ≡ name) × (proc_named program thread.callee ≡ None)) ⊎ AnyLacks (thread_uses program thread) name

abbrev pub UnknownIsTold : Type 0
UnknownIsTold = NameIsTold 11 UnknownIn

-- ---- E10

-- the name is one of these, and one of the earlier ones or of those before it
pub record StandsAgain (earlier names : List Name) (name : Name) : Type 0 where
  pub front : List Name
  pub rest : List Name
  pub names_are : names ≡ front ++ name ∷ rest
  pub again : has_name (earlier ++ front) name ≡ true

-- a call names the result again
abbrev pub AgainInForm : Stmt-F Stmt → Name → Type 0
AgainInForm (Call callee args results) name = StandsAgain [] results name
AgainInForm _ name = ⊥

-- the declaration has the name of an earlier one; or a name that it declares is that of a global or an earlier one of these,
-- or it updates a target again; or the statement of the procedure that has this number names a result again
abbrev pub AgainIn : Program → ℕ → Part → Name → Type 0
AgainIn program number (GlobalPart place global) name =
    (global.name ≡ name) × (has_name (global_names (take place program.globals)) global.name ≡ true)
AgainIn program number InitPart name = ⊥
AgainIn program number (InvariantPart place invariant) name = ⊥
AgainIn program number (ActionPart place action) name =
    ((action.name ≡ name) × (has_name (global_names program.globals ++ action_names (take place program.actions)) action.name ≡ true))
    ⊎ (StandsAgain (global_names program.globals) (names_in_action action) name ⊎ StandsAgain [] (targets_of action) name)
AgainIn program number (ProcPart place proc) name =
    (((proc.name ≡ name)
    × (has_name (global_names program.globals ++ (action_names program.actions ++ proc_names (take place program.procs))) proc.name ≡ true))
    ⊎ StandsAgain (global_names program.globals) (names_in_proc proc) name)
    ⊎ ((stmt : Stmt) × (statement_at proc.body number ≡ Some stmt) × AgainInForm (out-Stmt stmt) name)
AgainIn program number (ThreadPart place thread) name = ⊥

abbrev pub AgainIsTold : Type 0
AgainIsTold = NameIsTold 10 AgainIn

-- ---- E31

-- the expression has this name, plain or in `old(name)`
abbrev pub Has : Expr → Name → Type 0
Has expr name = uses (same_name name) expr ≡ true

-- one of these expressions has it
abbrev pub AnyHas : List Expr → Name → Type 0
AnyHas exprs name = (expr : Expr) × Contains exprs expr × Has expr name

-- an expression of the action has it, or it is a target
pub data HasInAction (action : Action) (name : Name) : Type 0 where
  InOffer : (choice : Choice) → Contains action.choices choice → Has choice.offer name → HasInAction action name
  InGate : Has action.gate name → HasInAction action name
  InGuard : Has action.guard name → HasInAction action name
  IsTarget : (update : Update) → Contains action.updates update → update.target ≡ name → HasInAction action name
  InValue : (update : Update) → Contains action.updates update → Has update.expr name → HasInAction action name

-- what the statement says of the store has it
abbrev pub HasInForm : Stmt-F Stmt → Name → Type 0
HasInForm (YieldLoop test inv body) name = Has inv name
HasInForm (RankLoop test rank inv body) name = Has rank name ⊎ Has inv name
HasInForm (Yield inv) name = Has inv name
HasInForm (Intro target value) name = Has value name
HasInForm _ name = ⊥

-- the same of a procedure that refines an action: behind `with`, or in the statement with this number; and a global of this
-- name may not be used there
abbrev pub HiddenInProc : Program → ℕ → Proc → Option Refines → Name → Type 0
HiddenInProc program number proc None name = ⊥
HiddenInProc program number proc (Some refines) name =
    (hidden_at_step program refines.layer name ≡ true)
    × (AnyHas refines.with name ⊎ ((stmt : Stmt) × (statement_at proc.body number ≡ Some stmt) × HasInForm (out-Stmt stmt) name))

-- the part has the name of a global, which doesn't exist where it has to
abbrev pub HiddenIn : Program → ℕ → Part → Name → Type 0
HiddenIn program number (GlobalPart place global) name = ⊥
HiddenIn program number InitPart name = ⊥
HiddenIn program number (InvariantPart place invariant) name = (hidden_at_step program invariant.step name ≡ true) × Has invariant.expr name
HiddenIn program number (ActionPart place action) name = (hidden_in_action program action name ≡ true) × HasInAction action name
HiddenIn program number (ProcPart place proc) name = HiddenInProc program number proc proc.refines name
HiddenIn program number (ThreadPart place thread) name = ⊥

abbrev pub HiddenIsTold : Type 0
HiddenIsTold = NameIsTold 31 HiddenIn

-- ---- E33

-- the action of this name is the refined one, which doesn't exist in the procedure's layer; or the one that the statement with
-- this number calls, or that the procedure which is called, spawned or run refines, and it doesn't exist as long as the caller
abbrev pub AbsentIn : Program → ℕ → Part → Name → Type 0
AbsentIn program number (ProcPart place proc) name =
    ((refines_missing program proc.refines ≡ true) × (name_of_action (refined_action program proc.refines) ≡ Some name))
    ⊎ ((stmt : Stmt) × (statement_at proc.body number ≡ Some stmt) × (stmt_missing program proc stmt ≡ true)
    × (form_absent program (out-Stmt stmt) ≡ Some name))
AbsentIn program number (ThreadPart place thread) name = (thread_missing program thread ≡ true) × (run_absent program thread ≡ Some name)
AbsentIn program number _ name = ⊥

abbrev pub AbsentIsTold : Type 0
AbsentIsTold = NameIsTold 33 AbsentIn
