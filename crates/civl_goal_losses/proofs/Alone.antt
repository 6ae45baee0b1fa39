-- What a thread that is alone comes to by a step is what its frame's statement does.
use Rattle.std.proofs.Common.{◌≡◌, ℕ, Bool, true, false, List, [], ◌∷◌, refl}
use Rattle.std.proofs.lemmas.Bool.{false≢true}
use Rattle.std.specs.Prelude.{Option, None, Some, option_and_then, slice_get, if◌then◌else◌}
use Rattle.civl_bits.specs.declared.value.Value.{Value}
use Rattle.civl_tree.specs.declared.action.Action.{Action}
use Rattle.civl_tree.specs.declared.name.Name.{Name}
use Rattle.civl_tree.specs.declared.program.Proc.{Proc}
use Rattle.civl_tree.specs.declared.program.Program.{Program}
use Rattle.civl_tree.specs.declared.stmt.Stmt.{Stmt, out-Stmt}
use Rattle.civl_tree.specs.declared.stmt.Stmt.TheOpen as stmt
use Rattle.civl_firing.specs.declared.store.Store.{Store}
use Rattle.civl_firing.specs.declared.firing.Fired.{Fired}
use Rattle.civl_firing.specs.declared.firing.Fired.TheVariants as fire
use Rattle.civl_firing.specs.Fired.{gate_holds, choices_fit, fired}
use Rattle.civl_meaning.specs.declared.config.Activation.{Activation}
use Rattle.civl_meaning.specs.declared.config.Change.{Change}
use Rattle.civl_meaning.specs.declared.config.Change.TheVariants as change
use Rattle.civl_meaning.specs.declared.config.Plain.{Plain}
use Rattle.civl_meaning.specs.declared.config.Running.{Running}
use Rattle.civl_meaning.specs.declared.config.State.TheVariants.{Inside}
use Rattle.civl_meaning.specs.declared.config.Stepped.TheVariants as answer
use Rattle.civl_meaning.specs.Places.{Spot, spot_at}
use Rattle.civl_meaning.specs.Meaning.{Meaning, Does, Runs, Missing, called}
use Rattle.civl_meaning.specs.Layers.{topmost}
use Rattle.civl_meaning.specs.Change as doing
use Rattle.civl_meaning.specs.Step.{step_with}
use Rattle.civl_goals.specs.Failed.{does, first_frame}
use Rattle.civl_goal_losses.specs.GoalLosses.{reached}
use Rattle.civl_goal_losses.specs.inner.Moves.{alone, moved, stepped, first_moment, spawned}

-- a change of a thread with one frame: it doesn't leave for a caller, and it doesn't stay and say that it moved
abbrev is_lone : Change → Bool
is_lone (change.Stays answer.Moved) = false
is_lone (change.Leaves (Some frame)) = false
is_lone _ = true

module _ (plain : Plain) (g : Store) (chosen : List Value) where
  acts_lone : (names : List Name) (locals : List Value) (results : List Name) (next : ℕ) (f : Fired) → is_lone (doing.acted names locals results next f) ≡ true
  acts_lone names locals results next fire.GateFalse = refl
  acts_lone names locals results next fire.Blocked = refl
  acts_lone names locals results next (fire.Moved store outs) = refl

  action_lone : (names : List Name) (locals : List Value) (results : List Name) (next : ℕ) (action : Action) (args : List Value) (gate fit : Bool)
      → is_lone (if◌then◌else◌ {A = Change} gate (if◌then◌else◌ {A = Change} fit (doing.acted names locals results next (fired plain.program.globals g action args chosen)) (change.Stays answer.BadChoices)) (change.Stays answer.Failing)) ≡ true
  action_lone names locals results next action args true true = acts_lone names locals results next _
  action_lone names locals results next action args true false = refl
  action_lone names locals results next action args false fit = refl

  call_lone : (names : List Name) (locals : List Value) (results : List Name) (at next : ℕ) (m : Meaning) (args : List Value) → is_lone (doing.done_by plain g chosen (doing.call_doing names locals results at next m args)) ≡ true
  call_lone names locals results at next (Does action) args = action_lone names locals results next action args (gate_holds plain.program.globals g action args) (choices_fit action chosen)
  call_lone names locals results at next (Runs number proc) args = refl
  call_lone names locals results at next Missing args = refl

  assert_lone : (b : Bool) (locals : List Value) (next : ℕ) → is_lone (doing.done_by plain g chosen (if◌then◌else◌ {A = doing.Doing} b (doing.Goes locals next) doing.Fails)) ≡ true
  assert_lone true locals next = refl
  assert_lone false locals next = refl

  form_lone : (proc : Proc) (locals : List Value) (at next : ℕ) (form : stmt.Stmt-F Stmt) → is_lone (doing.done_by plain g chosen (doing.statement_doing plain proc locals at next form)) ≡ true
  form_lone proc locals at next (stmt.Assert e) = assert_lone (doing.is_true_in plain proc locals e) locals next
  form_lone proc locals at next (stmt.Call f es rs) = call_lone _ locals rs at next (called plain f) _
  form_lone proc locals at next (stmt.Assign x e) = refl
  form_lone proc locals at next (stmt.If e a b) = refl
  form_lone proc locals at next (stmt.While e a) = refl
  form_lone proc locals at next (stmt.YieldLoop e i a) = refl
  form_lone proc locals at next (stmt.RankLoop e r i a) = refl
  form_lone proc locals at next (stmt.Spawn f es) = refl
  form_lone proc locals at next (stmt.Yield i) = refl
  form_lone proc locals at next stmt.Commit = refl
  form_lone proc locals at next (stmt.Intro x e) = refl

  spot_lone : (frame : Activation) (proc : Proc) (spot : Option Spot) → is_lone (doing.done_by plain g chosen (doing.spot_doing plain None frame proc spot)) ≡ true
  spot_lone frame proc None = refl
  spot_lone frame proc (Some s) = form_lone proc frame.locals s.number s.next (out-Stmt s.stmt)

  proc_lone : (frame : Activation) (proc : Option Proc) → is_lone (doing.done_by plain g chosen (doing.proc_doing plain None frame proc)) ≡ true
  proc_lone frame None = refl
  proc_lone frame (Some proc) = spot_lone frame proc (spot_at proc.body frame.place)

module _ (g : Store) (frame : Activation) where
  abbrev thread : Running
  thread = record { callee = 0; args = []; state = Inside [] frame }

  led : (c : Change) → is_lone c ≡ true → option_and_then first_moment (moved (step_with (alone g frame) 0 thread c)) ≡ reached g frame c
  led (change.Stays answer.Moved) e = absurd (false≢true e)
  led (change.Stays answer.Blocked) e = refl
  led (change.Stays answer.NoThread) e = refl
  led (change.Stays answer.Ended) e = refl
  led (change.Stays answer.Failing) e = refl
  led (change.Stays answer.BadChoices) e = refl
  led (change.Goes locals place) e = refl
  led (change.Acts store locals place) e = refl
  led (change.Enters top place) e = refl
  led (change.Leaves None) e = refl
  led (change.Leaves (Some top)) e = absurd (false≢true e)
  led (change.Spawns new place) e = refl

  begun : (program : Program) (c : Change) → is_lone c ≡ true → option_and_then (spawned program) (moved (step_with (alone g frame) 0 thread c)) ≡ first_frame program c
  begun program (change.Stays answer.Moved) e = absurd (false≢true e)
  begun program (change.Stays answer.Blocked) e = refl
  begun program (change.Stays answer.NoThread) e = refl
  begun program (change.Stays answer.Ended) e = refl
  begun program (change.Stays answer.Failing) e = refl
  begun program (change.Stays answer.BadChoices) e = refl
  begun program (change.Goes locals place) e = refl
  begun program (change.Acts store locals place) e = refl
  begun program (change.Enters top place) e = refl
  begun program (change.Leaves None) e = refl
  begun program (change.Leaves (Some top)) e = absurd (false≢true e)
  begun program (change.Spawns new place) e = refl

module _ (program : Program) (g : Store) (frame : Activation) (chosen : List Value) where
  lone : is_lone (does program g frame chosen) ≡ true
  lone = proc_lone (topmost program) g chosen frame (slice_get program.procs frame.procedure)

  pub led_by_step : option_and_then first_moment (stepped program g frame chosen) ≡ reached g frame (does program g frame chosen)
  led_by_step = led g frame (does program g frame chosen) lone

  pub begun_by_step : option_and_then (spawned program) (stepped program g frame chosen) ≡ first_frame program (does program g frame chosen)
  begun_by_step = begun g frame program (does program g frame chosen) lone
