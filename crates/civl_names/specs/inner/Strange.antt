-- Serves private functions: rule E11 by the names that are declared, without their sorts.
use Rattle.std.specs.Prelude.{ℕ, ◌+◌, Bool, false, not, ◌||◌, List, ◌++◌, map, Option, None, Some}
use Rattle.std.specs.List.{list_any}
use Rattle.civl_tree.specs.declared.name.Name.{Name}
use Rattle.civl_tree.specs.declared.expr.Expr.{Expr}
use Rattle.civl_tree.specs.declared.stmt.Stmt.{Stmt, out-Stmt}
use Rattle.civl_tree.specs.declared.stmt.Stmt.TheOpen.{Stmt-F, Assign, Assert, If, While, YieldLoop, RankLoop, Call, Yield, Commit, Intro, Spawn}
use Rattle.civl_tree.specs.declared.action.Action.{Action}
use Rattle.civl_tree.specs.declared.program.Invariant.{Invariant}
use Rattle.civl_tree.specs.declared.program.Refines.{Refines}
use Rattle.civl_tree.specs.declared.program.Proc.{Proc}
use Rattle.civl_tree.specs.declared.program.Thread.{Thread}
use Rattle.civl_tree.specs.declared.program.Program.{Program}
use Rattle.civl_tree.specs.rules.Names.{has_name, global_names, action_names, proc_names, param_names}
use Rattle.civl_tree.specs.rules.Codes.{E11}
use Rattle.std.specs.Option.{option_or}
use Rattle.civl_tree.specs.declared.refusal.Refusal.{Refusal}
use Rattle.civl_tree.specs.Numbering.{init_item}
use Rattle.civl_tree.specs.rules.Rules.{Rule, Place, asks_nothing, statements_where, item_place, each_place, invariant_places, action_places, proc_places, thread_places, refusal_at, first_of}
use Rattle.civl_names.specs.inner.NameSets.{names_in, with_names, set_of}
use Rattle.civl_names.specs.inner.InScope.{all_known, any_strange}
use Rattle.civl_names.specs.declared.unknown.Sets.{Sets}
use Rattle.civl_names.specs.declared.procs.InProc.{InProc}

-- ---- names

-- those of a program's globals, actions and procedures
pub record Declared : Type 0 where
  pub globals : List Name
  pub actions : List Name
  pub procs : List Name

abbrev pub declared_by : Program → Declared
declared_by program = record { globals = global_names program.globals; actions = action_names program.actions; procs = proc_names program.procs }

abbrev pub declared_in : Sets → Declared
declared_in sets = record { globals = names_in sets.globals.now; actions = names_in sets.actions.now; procs = names_in sets.procs.now }

-- those in scope in a procedure: the program's, its own, and its outputs
pub record Inner : Type 0 where
  pub declared : Declared
  pub own : List Name
  pub outs : List Name

-- those that a procedure declares, each once
abbrev pub own_names : Proc → List Name
own_names proc = with_names (with_names (set_of (param_names proc.params)) (param_names proc.outs)) (map (λ declared. declared.name) proc.locals)

abbrev pub inner_names : Declared → Proc → Inner
inner_names declared proc = record { declared = declared; own = own_names proc; outs = set_of (param_names proc.outs) }

abbrev pub inner_in : InProc → Inner
inner_in sets = record { declared = declared_in sets.declared; own = names_in sets.own.now.names; outs = names_in sets.own.now.outs }

-- ---- items

abbrev pub global_strange : Declared → Expr → Bool
global_strange declared expression = not (all_known declared.globals declared.globals expression)

abbrev pub invariant_strange : Declared → Invariant → Bool
invariant_strange declared invariant = global_strange declared invariant.expr

-- a target of an update is none of these
abbrev pub targets_strange : List Name → Action → Bool
targets_strange names action = list_any (λ update. not (has_name names update.target)) action.updates

abbrev pub gate_strange : List Name → List Name → Action → Bool
gate_strange names olds action = list_any (λ choice. not (all_known names olds choice.offer)) action.choices || not (all_known names olds action.gate)

abbrev pub guard_strange : List Name → List Name → Action → Bool
guard_strange names olds action = not (all_known names olds action.guard) || list_any (λ update. not (all_known names olds update.expr)) action.updates

abbrev pub action_strange : Declared → Action → Bool
action_strange declared action =
    targets_strange (declared.globals ++ set_of (param_names action.outs)) action
    || (gate_strange (declared.globals ++ set_of (param_names action.params)) (declared.globals ++ set_of (param_names action.outs)) action
    || guard_strange (declared.globals ++ with_names (set_of (param_names action.params)) (map (λ choice. choice.name) action.choices)) (declared.globals ++ set_of (param_names action.outs)) action)

abbrev pub refines_strange : Inner → Option Refines → Bool
refines_strange inner None = false
refines_strange inner (Some refines) =
    not (has_name inner.declared.actions refines.action)
    || any_strange (inner.declared.globals ++ inner.own) (inner.declared.globals ++ inner.outs) refines.with

abbrev pub thread_strange : Declared → Thread → Bool
thread_strange declared thread = not (has_name declared.procs thread.callee) || any_strange declared.globals declared.globals thread.args

-- ---- statements

abbrev pub body_strange : Inner → Expr → Bool
body_strange inner expression = not (all_known inner.own (inner.declared.globals ++ inner.outs) expression)

abbrev pub note_strange : Inner → Expr → Bool
note_strange inner expression = not (all_known (inner.declared.globals ++ inner.own) (inner.declared.globals ++ inner.outs) expression)

abbrev pub arguments_strange : Inner → List Expr → Bool
arguments_strange inner args = any_strange inner.own (inner.declared.globals ++ inner.outs) args

abbrev pub results_strange : Inner → List Name → Bool
results_strange inner results = list_any (λ name. not (has_name inner.own name)) results

-- a callee is neither an action nor a procedure
abbrev pub call_strange : Inner → Name → Bool
call_strange inner callee = not (has_name inner.declared.actions callee || has_name inner.declared.procs callee)

abbrev pub form_strange : Inner → Stmt-F Stmt → Bool
form_strange inner (Assign target value) = not (has_name inner.own target) || body_strange inner value
form_strange inner (Assert fact) = body_strange inner fact
form_strange inner (If test first second) = body_strange inner test
form_strange inner (While test body) = body_strange inner test
form_strange inner (YieldLoop test inv body) = body_strange inner test || note_strange inner inv
form_strange inner (RankLoop test rank inv body) = body_strange inner test || (note_strange inner rank || note_strange inner inv)
form_strange inner (Call callee args results) = call_strange inner callee || (results_strange inner results || arguments_strange inner args)
form_strange inner (Yield inv) = note_strange inner inv
form_strange inner Commit = false
form_strange inner (Intro target value) = not (has_name inner.declared.globals target) || note_strange inner value
form_strange inner (Spawn callee args) = not (has_name inner.declared.procs callee) || arguments_strange inner args

abbrev pub stmt_strange : Inner → Stmt → Bool
stmt_strange inner stmt = form_strange inner (out-Stmt stmt)

-- ---- the rule

abbrev pub strange_rule : Declared → Rule
strange_rule declared = record (asks_nothing E11) {
  init = λ program. global_strange declared program.init;
  invariant = λ program place invariant. invariant_strange declared invariant;
  action = λ program place action. action_strange declared action;
  proc = λ program place proc. refines_strange (inner_names declared proc) proc.refines;
  statements = λ program place proc. statements_where (stmt_strange (inner_names declared proc)) proc;
  thread = λ program place thread. thread_strange declared thread;
}

-- items that are broken as a whole, where so many stand before them
abbrev pub broken_items : {A : Type 0} → (A → Bool) → ℕ → ℕ → A → List Place
broken_items is_broken before place item = item_place (before + place) (is_broken item)

-- its first refusal, kind by kind: `init`, the invariants, the actions, the procedures and the threads
abbrev pub first_strange : Declared → Program → Option Refusal
first_strange declared program =
    option_or (first_of (map (refusal_at E11) (item_place (init_item program) (global_strange declared program.init))))
    (option_or (first_of (map (refusal_at E11) (each_place (invariant_places (strange_rule declared) program) 0 program.invariants)))
    (option_or (first_of (map (refusal_at E11) (each_place (action_places (strange_rule declared) program) 0 program.actions)))
    (option_or (first_of (map (refusal_at E11) (each_place (proc_places (strange_rule declared) program) 0 program.procs)))
    (first_of (map (refusal_at E11) (each_place (thread_places (strange_rule declared) program) 0 program.threads))))))
