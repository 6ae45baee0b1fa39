-- Which linear locals a procedure holds before each of its statements. A set of held locals is a list of flags, one for
-- each name of the procedure: its parameters, outputs and locals, in this order. (Linear permissions of the layered
-- programs of Hawblitzel, Petrank, Qadeer, Tasiran, CAV 2015; Kragl, Qadeer, CAV 2018.)
use Rattle.std.specs.Prelude.{Bool, true, false, not, ◌&&◌, ◌||◌, List, [], ◌∷◌, ◌++◌, map, Option, None, Some}
use Rattle.civl_tree.specs.declared.name.Name.{Name}
use Rattle.civl_tree.specs.declared.expr.Expr.{Expr}
use Rattle.civl_tree.specs.declared.stmt.Stmt.{Stmt}
use Rattle.civl_tree.specs.declared.stmt.Stmt.TheOpen.{Stmt-F, If, While, YieldLoop, RankLoop, Call, Spawn}
use Rattle.civl_tree.specs.declared.stmt.Stmt.TheFolds.{fold-Stmt}
use Rattle.civl_tree.specs.declared.program.Proc.{Proc}
use Rattle.civl_tree.specs.declared.program.Program.{Program}
use Rattle.civl_tree.specs.rules.Names.{Signature, same_name, has_name, names_in_proc, proc_named, proc_signature_of, callee_signature}
use Rattle.civl_linear.specs.Modes.{is_passed, is_taken, is_lent, is_given, passed_names, given_names}

-- ---- sets of names, as flags

-- of these names, with their flags, this one is held
abbrev pub holds : List Name → List Bool → Name → Bool
holds [] held name = false
holds (first ∷ names) [] name = false
holds (first ∷ names) (is_held ∷ held) name = (is_held && same_name first name) || holds names held name

-- what is held without these names
abbrev pub without_names : List Name → List Name → List Bool → List Bool
without_names gone [] held = []
without_names gone (name ∷ names) [] = []
without_names gone (name ∷ names) (is_held ∷ held) = (is_held && not (has_name gone name)) ∷ without_names gone names held

-- what is held, and these names
abbrev pub with_names : List Name → List Name → List Bool → List Bool
with_names new [] held = []
with_names new (name ∷ names) [] = []
with_names new (name ∷ names) (is_held ∷ held) = (is_held || has_name new name) ∷ with_names new names held

-- what is held in both
abbrev pub both_held : List Bool → List Bool → List Bool
both_held [] second = []
both_held (one ∷ first) [] = []
both_held (one ∷ first) (other ∷ second) = (one && other) ∷ both_held first second

-- all that is held in the first is held in the second
abbrev pub covers : List Bool → List Bool → Bool
covers [] second = true
covers (one ∷ first) [] = true
covers (one ∷ first) (other ∷ second) = (not one || other) && covers first second

-- ---- going over statements

-- at the entry of a procedure: its lend and take parameters
abbrev pub entry_held : Proc → List Bool
entry_held proc = map (λ param. is_passed param.mode) proc.params ++ (map (λ out. false) proc.outs ++ map (λ declared. false) proc.locals)

-- behind a call, where these are the names of the caller: without the take arguments, and with the give results
abbrev pub call_held : List Name → Option Signature → List Expr → List Name → List Bool → List Bool
call_held names None args results held = held
call_held names (Some signature) args results held = with_names (given_names signature.outs results) names (without_names (passed_names is_taken signature.params args) names held)

-- behind a spawn: without the lend and take arguments
abbrev pub spawn_held : List Name → Option Signature → List Expr → List Bool → List Bool
spawn_held names None args held = held
spawn_held names (Some signature) args held = without_names (passed_names is_passed signature.params args) names held

-- going over statements: what is held behind them; what is held before each of them and before each statement in them, in
-- text order; and whether each of these is a loop whose body ends without holding all that was held at its head
pub record Traced : Type 0 where
  pub after : List Bool
  pub befores : List (List Bool)
  pub losses : List Bool

-- over statements in their order, where this is held before the first
abbrev pub trace_all : List (List Bool → Traced) → List Bool → Traced
trace_all [] held = record { after = held; befores = []; losses = [] }
trace_all (statement ∷ statements) held =
    let here = statement held in
    let rest = trace_all statements here.after in
    record { after = rest.after; befores = here.befores ++ rest.befores; losses = here.losses ++ rest.losses }

-- over a statement with no others in it
abbrev pub trace_one : List Bool → List Bool → Traced
trace_one held after = record { after = after; befores = held ∷ []; losses = false ∷ [] }

-- over an `if`: behind it is held what both branches hold
abbrev pub trace_if : List Bool → Traced → Traced → Traced
trace_if held first second = record {
  after = both_held first.after second.after;
  befores = held ∷ first.befores ++ second.befores;
  losses = false ∷ first.losses ++ second.losses;
}

-- over a loop: at its head, and so behind it, is held what was held before it
abbrev pub trace_loop : List Bool → Traced → Traced
trace_loop held body = record { after = held; befores = held ∷ body.befores; losses = not (covers held body.after) ∷ body.losses }

-- over a statement by its form, in a procedure with these names, with what goes over its parts
abbrev pub trace_step : Program → List Name → Stmt-F (List Bool → Traced) → List Bool → Traced
trace_step program names (If test first second) held = trace_if held (trace_all first held) (trace_all second held)
trace_step program names (While test body) held = trace_loop held (trace_all body held)
trace_step program names (YieldLoop test inv body) held = trace_loop held (trace_all body held)
trace_step program names (RankLoop test rank inv body) held = trace_loop held (trace_all body held)
trace_step program names (Call callee args results) held = trace_one held (call_held names (callee_signature program callee) args results held)
trace_step program names (Spawn callee args) held = trace_one held (spawn_held names (proc_signature_of (proc_named program callee)) args held)
trace_step program names _ held = trace_one held held

-- over a statement and those in it
abbrev pub traced : Program → List Name → Stmt → List Bool → Traced
traced program names = fold-Stmt (List Bool → Traced) (trace_step program names)

-- over statements and those in them
abbrev pub traced_all : Program → List Name → List Stmt → List Bool → Traced
traced_all program names stmts = trace_all (map (traced program names) stmts)

-- over the body of a procedure
abbrev pub traced_proc : Program → Proc → Traced
traced_proc program proc = traced_all program (names_in_proc proc) proc.body (entry_held proc)

-- what has to be held at the exit: lend parameters and give outputs
abbrev pub exit_owed : Proc → List Bool
exit_owed proc = map (λ param. is_lent param.mode) proc.params ++ (map (λ out. is_given out.mode) proc.outs ++ map (λ declared. false) proc.locals)
