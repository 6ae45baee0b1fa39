-- A thread that fails stands before what fails.
use Rattle.std.proofs.Common.{◌≡◌, ℕ, Bool, true, false, not, List, [], refl, Option, Some, None}
use Rattle.std.specs.Prelude.{if◌then◌else◌, slice_get, IsTrue}
use Rattle.civl_bits.specs.declared.value.Value.{Value}
use Rattle.civl_tree.specs.declared.name.Name.{Name}
use Rattle.civl_tree.specs.declared.program.Proc.{Proc}
use Rattle.civl_tree.specs.declared.stmt.Stmt.{Stmt, out-Stmt}
use Rattle.civl_tree.specs.declared.stmt.Stmt.TheOpen as stmt
use Rattle.civl_tree.specs.rules.Names.{names_in_proc}
use Rattle.civl_firing.specs.declared.store.Store.{Store}
use Rattle.civl_firing.specs.Eval.{values_of}
use Rattle.civl_firing.specs.Fired.{gate_holds}
use Rattle.civl_firing.specs.Scope.{frame_values}
use Rattle.civl_meaning.specs.declared.config.Activation.{Activation}
use Rattle.civl_meaning.specs.declared.config.Plain.{Plain}
use Rattle.civl_meaning.specs.declared.config.Running.{Running}
use Rattle.civl_meaning.specs.declared.config.State.{State}
use Rattle.civl_meaning.specs.declared.config.State.TheVariants.{Before, Inside, After}
use Rattle.civl_meaning.specs.Change.{Goes, Fails, call_doing, statement_doing, spot_doing, proc_doing, state_doing, caller_of, is_true_in}
use Rattle.civl_meaning.specs.Failing.{fails_at}
use Rattle.civl_meaning.specs.Meaning.{Meaning, Does, Runs, Missing, called, meaning_of}
use Rattle.civl_meaning.specs.Places.{Spot, spot_at}
use Rattle.civl_history.specs.Stands.{spot_in_proc, frame_stands, state_stands}
use Rattle.civl_history.specs.Laws.{ActionFails, FormFails, FailsAt, locals_in, FailingStandsThere}
use Rattle.civl_history.proofs.Standing.{is_statement}

is_false : (b : Bool) → IsTrue (not b) → b ≡ false
is_false true h = absurd (cc)
is_false false h = refl

module _ (plain : Plain) (store : Store) where
  call_fails : (names : List Name) (locals : List Value) (results : List Name) (at next : ℕ) (m : Meaning) (args : List Value) → IsTrue (fails_at plain store (call_doing names locals results at next m args)) → ActionFails plain store m args
  call_fails names locals results at next (Does action) args h = is_false (gate_holds plain.program.globals store action args) h
  call_fails names locals results at next (Runs number proc) args h = absurd (cc)
  call_fails names locals results at next Missing args h = absurd (cc)

  assert_fails : (locals : List Value) (next : ℕ) (holds : Bool) → IsTrue (fails_at plain store (if holds then Goes locals next else Fails)) → holds ≡ false
  assert_fails locals next true h = absurd (cc)
  assert_fails locals next false h = refl

  form_fails : (proc : Proc) (locals : List Value) (at next : ℕ) (form : stmt.Stmt-F Stmt) → IsTrue (fails_at plain store (statement_doing plain proc locals at next form)) → FormFails plain store proc locals form
  form_fails proc locals at next (stmt.Assert fact) h = assert_fails locals next (is_true_in plain proc locals fact) h
  form_fails proc locals at next (stmt.Call callee args results) h = call_fails (names_in_proc proc) locals results at next (called plain callee) (values_of (frame_values plain.program.globals proc locals) args) h
  form_fails proc locals at next (stmt.Assign x e) h = absurd (cc)
  form_fails proc locals at next (stmt.If e a b) h = absurd (cc)
  form_fails proc locals at next (stmt.While e a) h = absurd (cc)
  form_fails proc locals at next (stmt.YieldLoop e i a) h = absurd (cc)
  form_fails proc locals at next (stmt.RankLoop e r i a) h = absurd (cc)
  form_fails proc locals at next (stmt.Yield e) h = absurd (cc)
  form_fails proc locals at next stmt.Commit h = absurd (cc)
  form_fails proc locals at next (stmt.Intro x e) h = absurd (cc)
  form_fails proc locals at next (stmt.Spawn f es) h = absurd (cc)

  module _ (args : List Value) (caller : Option Activation) (top : Activation) where
    spot_fails : (proc : Proc) → slice_get plain.program.procs top.procedure ≡ Some proc → (spot : Option Spot) → spot_at proc.body top.place ≡ spot → IsTrue (fails_at plain store (spot_doing plain caller top proc spot)) → FailsAt plain store args top.locals (frame_stands top.procedure spot)
    spot_fails proc there None at h = absurd (cc)
    spot_fails proc there (Some spot) at h = (proc, spot.stmt, is_statement plain top.procedure proc top.place spot there at, form_fails proc top.locals spot.number spot.next (out-Stmt spot.stmt) h)

    proc_fails : (proc : Option Proc) → slice_get plain.program.procs top.procedure ≡ proc → IsTrue (fails_at plain store (proc_doing plain caller top proc)) → FailsAt plain store args top.locals (frame_stands top.procedure (spot_in_proc proc top.place))
    proc_fails None there h = absurd (cc)
    proc_fails (Some proc) there h = spot_fails proc there (spot_at proc.body top.place) refl h

  state_fails : (thread : Running) (state : State) → IsTrue (fails_at plain store (state_doing plain thread state)) → FailsAt plain store thread.args (locals_in state) (state_stands plain thread.callee state)
  state_fails thread Before h = call_fails [] [] [] 0 0 (meaning_of plain thread.callee) thread.args h
  state_fails thread (Inside below top) h = proc_fails thread.args (caller_of below) top (slice_get plain.program.procs top.procedure) refl h
  state_fails thread After h = absurd (cc)

pub failing_stands_there : FailingStandsThere
failing_stands_there plain store thread h = state_fails plain store thread thread.state h
