-- Paths: what the body of a procedure comes to, run by itself with no other thread, from a cut to the next cut or the exit.
-- (Cut points: Floyd, Assigning meanings to programs, 1967. Blocks between yields: Kragl, Qadeer, CAV 2018.) A statement of
-- a plain program does what its step does; `commit` and `intro`, which a plain program passes over, take effect here. Every
-- loop of a procedure that refines is a cut, and at a plain loop a path stops, so a path is finite, and what it comes to is a
-- function of the values at its beginning and of the choices of its calls.
use Rattle.std.specs.Prelude.{ℕ, ◌+◌, Bool, true, false, ◌||◌, if◌then◌else◌, List, [], ◌∷◌, ◌++◌, map, drop, slice_set}
use Rattle.civl_bits.specs.declared.value.Value.{Value}
use Rattle.civl_tree.specs.declared.name.Name.{Name}
use Rattle.civl_tree.specs.declared.expr.Expr.{Expr}
use Rattle.civl_tree.specs.declared.program.Global.{Global}
use Rattle.civl_tree.specs.declared.program.Proc.{Proc}
use Rattle.civl_tree.specs.declared.stmt.Stmt.{Stmt, out-Stmt}
use Rattle.civl_tree.specs.declared.stmt.Stmt.TheOpen as stmt
use Rattle.civl_tree.specs.declared.stmt.Stmt.TheFolds.{para-Stmt}
use Rattle.civl_firing.specs.declared.store.Store.{Store}
use Rattle.civl_firing.specs.Truth.{place_of}
use Rattle.civl_firing.specs.Eval.{value_of}
use Rattle.civl_tree.specs.rules.Names.{global_names}
use Rattle.civl_firing.specs.Scope.{frame_values}
use Rattle.civl_firing.specs.values.Values.{is_true}
use Rattle.civl_tree.specs.Numbering.{size_of, sizes_of, numbered}
use Rattle.civl_meaning.specs.declared.config.Plain.{Plain}
use Rattle.civl_meaning.specs.declared.config.Stepped.TheVariants as answer
use Rattle.civl_meaning.specs.declared.config.Change.{Change}
use Rattle.civl_meaning.specs.declared.config.Change.TheVariants.{Stays, Goes, Acts, Enters, Leaves, Spawns}
use Rattle.civl_meaning.specs.Rest.{Rest, rest_at}
use Rattle.civl_meaning.specs.Change.{done_by, statement_doing}
use Rattle.civl_layers.specs.declared.cut.Cut.{Cut}
use Rattle.civl_layers.specs.declared.cut.CutKind.{CutKind}
use Rattle.civl_layers.specs.declared.cut.CutKind.TheVariants as kind
use Rattle.civl_conditions.specs.paths.NoteValues.{plain_note_values}

-- what stays along a path: the plain program, the procedure, and the values for the choices of each call, by its number
pub record Course : Type 0 where
  pub plain : Plain
  pub proc : Proc
  pub chosen : ℕ → List Value

-- a body on its way: the store; the parameters, outputs and locals; `done`, which says that a commit was passed; and whether
-- a commit was passed where `done` was true
pub record Progress : Type 0 where
  pub store : Store
  pub locals : List Value
  pub done : Bool
  pub again : Bool

-- what going over statements comes to: past them; before the cut that is the statement with this number; before a call whose
-- gate is false or an assert that is false; or before a statement that isn't passed. The last is a call whose guard is false,
-- or what no procedure has that refines an action: a plain loop, a spawn, or a call that means a body
pub data Outcome : Type 0 where
  Past : Progress → Outcome
  Comes : ℕ → Progress → Outcome
  Fails : Progress → Outcome
  Stops : Progress → Outcome

-- an outcome, and what comes after it
abbrev pub after : Outcome → (Progress → Outcome) → Outcome
after (Past p) next = next p
after (Comes number p) next = Comes number p
after (Fails p) next = Fails p
after (Stops p) next = Stops p

-- what a step of a plain program comes to
abbrev pub came : Progress → Change → Outcome
came p (Goes locals place) = Past (record { store = p.store; locals = locals; done = p.done; again = p.again })
came p (Acts store locals place) = Past (record { store = store; locals = locals; done = p.done; again = p.again })
came p (Stays answer.Failing) = Fails p
came p (Stays answer.Moved) = Stops p
came p (Stays answer.Blocked) = Stops p
came p (Stays answer.NoThread) = Stops p
came p (Stays answer.Ended) = Stops p
came p (Stays answer.BadChoices) = Stops p
came p (Enters frame place) = Stops p
came p (Leaves frame) = Stops p
came p (Spawns thread place) = Stops p

-- the statement with the number `at`, by its step
abbrev pub stepped : Course → stmt.Stmt-F Stmt → ℕ → Progress → Outcome
stepped c s at p = came p (done_by c.plain p.store (c.chosen at) (statement_doing c.plain c.proc p.locals at (at + 1) s))

-- whether a condition of the body holds
abbrev pub tested : Course → Expr → Progress → Bool
tested c e p = is_true (value_of (frame_values c.plain.program.globals c.proc p.locals) e)

abbrev pub committed : Progress → Progress
committed p = record { store = p.store; locals = p.locals; done = true; again = p.again || p.done }

-- the store with a global set to a value
abbrev pub set_global : List Global → Store → Name → Value → Store
set_global globals store name value = record { values = slice_set store.values (place_of (global_names globals) name) value }

abbrev pub introduced : Course → Name → Expr → Progress → Progress
introduced c name e p = record {
  store = set_global c.plain.program.globals p.store name (value_of (plain_note_values c.plain.program.globals c.proc p.store p.locals) e);
  locals = p.locals;
  done = p.done;
  again = p.again;
}

-- going over a statement that has this number
abbrev pub Passing : Type 0
Passing = ℕ → Progress → Outcome

abbrev pub stmts_of : List (Stmt × Passing) → List Stmt
stmts_of ps = map (λ p. p.0) ps

-- going over statements, the first of which has this number
abbrev pub passed_in : List (Stmt × Passing) → ℕ → Progress → Outcome
passed_in [] at p = Past p
passed_in (q ∷ qs) at p = after (q.1 at p) (passed_in qs (at + size_of q.0))

-- going over one layer
abbrev pub pass_step : Course → stmt.Stmt-F (Stmt × Passing) → Passing
pass_step c (stmt.Assign x e) at p = stepped c (stmt.Assign x e) at p
pass_step c (stmt.Assert e) at p = stepped c (stmt.Assert e) at p
pass_step c (stmt.If e a b) at p = if tested c e p then passed_in a (at + 1) p else passed_in b (at + 1 + sizes_of (stmts_of a)) p
pass_step c (stmt.While e a) at p = Stops p
pass_step c (stmt.YieldLoop e i a) at p = Comes at p
pass_step c (stmt.RankLoop e r i a) at p = Comes at p
pass_step c (stmt.Call f es rs) at p = stepped c (stmt.Call f es rs) at p
pass_step c (stmt.Yield i) at p = Comes at p
pass_step c stmt.Commit at p = Past (committed p)
pass_step c (stmt.Intro x e) at p = Past (introduced c x e p)
pass_step c (stmt.Spawn f es) at p = Stops p

unfoldable pub pass : Course → Stmt → Passing
pass c = para-Stmt Passing (pass_step c)

-- going over statements with their numbers
unfoldable pub pass_all : Course → Rest → Progress → Outcome
unfolding pass
pass_all c [] p = Past p
pass_all c (q ∷ qs) p = after (pass c q.1 q.0 p) (pass_all c qs)

-- from the head of a loop: its body and the loop again, or what is behind it
abbrev pub from_loop : Course → Expr → List Stmt → Rest → Progress → Outcome
from_loop c e a [] p = Past p
from_loop c e a (q ∷ qs) p = if tested c e p then pass_all c (numbered (q.0 + 1) a ++ q ∷ qs) p else pass_all c qs p

-- from a statement that is a cut, which is the first of these
unfoldable pub from_layer : Course → stmt.Stmt-F Stmt → Rest → Progress → Outcome
from_layer c (stmt.YieldLoop e i a) rest p = from_loop c e a rest p
from_layer c (stmt.RankLoop e r i a) rest p = from_loop c e a rest p
from_layer c _ rest p = pass_all c (drop 1 rest) p

abbrev pub from_rest : Course → Rest → Progress → Outcome
from_rest c [] p = Past p
from_rest c (q ∷ qs) p = from_layer c (out-Stmt q.1) (q ∷ qs) p

abbrev pub from_kind : Course → ℕ → CutKind → Progress → Outcome
from_kind c number kind.Entry p = pass_all c (numbered 0 c.proc.body) p
from_kind c number kind.Yield p = from_rest c (rest_at c.proc.body number) p
from_kind c number kind.YieldLoop p = from_rest c (rest_at c.proc.body number) p
from_kind c number kind.RankLoop p = from_rest c (rest_at c.proc.body number) p

-- what the path from a cut comes to; past all statements is the exit
unfoldable pub path_from : Course → Cut → Progress → Outcome
path_from c cut p = from_kind c cut.statement cut.kind p

-- how far it came
abbrev pub progress_of : Outcome → Progress
progress_of (Past p) = p
progress_of (Comes number p) = p
progress_of (Fails p) = p
progress_of (Stops p) = p

-- it met a gate or an assert that is false
abbrev pub has_failed : Outcome → Bool
has_failed (Past p) = false
has_failed (Comes number p) = false
has_failed (Fails p) = true
has_failed (Stops p) = false
