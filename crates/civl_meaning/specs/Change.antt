-- Part of the claim: docs/CLAIM.md.
-- What one step of a thread does: one statement of it, of which an action call is one. What a thread does next is told by the
-- thread alone: the store and the choices matter to a call of an action, and to nothing else. (Small-step interleaving; gated
-- atomic actions of Hawblitzel, Petrank, Qadeer, Tasiran, CAV 2015.)
use Rattle.std.specs.Prelude.{ℕ, Bool, ◌+◌, ◌-◌, List, [], ◌∷◌, ◌++◌, length, take, drop, Option, None, Some, option_map, slice_get, slice_set, if◌then◌else◌}
use Rattle.civl_bits.specs.declared.value.Value.{Value}
use Rattle.civl_tree.specs.declared.name.Name.{Name}
use Rattle.civl_tree.specs.declared.action.Action.{Action}
use Rattle.civl_tree.specs.declared.expr.Expr.{Expr}
use Rattle.civl_tree.specs.declared.program.Proc.{Proc}
use Rattle.civl_tree.specs.declared.stmt.Stmt.{Stmt, out-Stmt}
use Rattle.civl_tree.specs.declared.stmt.Stmt.TheOpen as stmt
use Rattle.civl_firing.specs.declared.store.Store.{Store}
use Rattle.civl_meaning.specs.declared.config.Plain.{Plain}
use Rattle.civl_meaning.specs.declared.config.Activation.{Activation}
use Rattle.civl_meaning.specs.declared.config.State.{State}
use Rattle.civl_meaning.specs.declared.config.State.TheVariants.{Before, Inside, After}
use Rattle.civl_meaning.specs.declared.config.Running.{Running}
use Rattle.civl_meaning.specs.declared.config.Stepped.TheVariants as answer
use Rattle.civl_firing.specs.declared.firing.Fired.{Fired}
use Rattle.civl_firing.specs.declared.firing.Fired.TheVariants as fire
use Rattle.civl_meaning.specs.declared.config.Change.{Change}
use Rattle.civl_meaning.specs.declared.config.Change.TheVariants as change
use Rattle.civl_firing.specs.Truth.{place_of}
use Rattle.civl_firing.specs.values.Values.{is_true}
use Rattle.civl_firing.specs.Eval.{value_of, values_of}
use Rattle.civl_firing.specs.Scope.{zeros_of_params, zeros_of_locals, frame_values}
use Rattle.civl_tree.specs.rules.Names.{names_in_proc}
use Rattle.civl_firing.specs.Fired.{gate_holds, choices_fit, fired}
use Rattle.civl_meaning.specs.Places.{Spot, start_of, spot_at}
use Rattle.civl_tree.specs.Numbering.{sizes_of}
use Rattle.civl_meaning.specs.Meaning.{Meaning, Does, Runs, Missing, called, meaning_of, proc_number}

-- ---- frames

-- locals with the outputs of a call under the names of its results
abbrev pub with_results : List Name → List Value → List Name → List Value → List Value
with_results names locals [] outs = locals
with_results names locals (r ∷ rs) [] = locals
with_results names locals (r ∷ rs) (v ∷ vs) = with_results names (slice_set locals (place_of names r) v) rs vs

-- the frame of a call: outputs and locals start as zeros
abbrev pub new_frame : ℕ → Proc → List Value → Activation
new_frame number proc args = record { procedure = number; place = 0; locals = args ++ (zeros_of_params proc.outs ++ zeros_of_locals proc.locals) }

-- the locals of a frame that waits in this call, with the call's outputs
abbrev pub returned_layer : Proc → List Value → List Value → stmt.Stmt-F Stmt → List Value
returned_layer proc locals outs (stmt.Call f es rs) = with_results (names_in_proc proc) locals rs outs
returned_layer proc locals outs _ = locals

abbrev pub returned_at : Activation → List Value → Proc → Option Spot → Activation
returned_at frame outs proc None = frame
returned_at frame outs proc (Some s) = record { procedure = frame.procedure; place = s.next; locals = returned_layer proc frame.locals outs (out-Stmt s.stmt) }

abbrev pub returned_in : Activation → List Value → Option Proc → Activation
returned_in frame outs None = frame
returned_in frame outs (Some proc) = returned_at frame outs proc (spot_at proc.body frame.place)

-- a frame that waits in a call, after the call gave these outputs
abbrev pub returned : Plain → List Value → Activation → Activation
returned plain outs frame = returned_in frame outs (slice_get plain.program.procs frame.procedure)

-- the outputs among a frame's locals
abbrev pub outs_in : Proc → List Value → List Value
outs_in proc locals = take (length proc.outs) (drop (length proc.params) locals)

-- the frame below the topmost one, but for the thread's first
abbrev pub caller_of : List Activation → Option Activation
caller_of below = slice_get below (length below - 1)

-- ---- what a thread does next

pub data Doing : Type 0 where
  -- it stands before a false assert, before what means nothing, or has ended
  Fails Waits Ends : Doing
  -- on to a place of its frame, with these locals
  Goes : List Value → ℕ → Doing
  -- into a body, with the frame below at this place
  Enters : Activation → ℕ → Doing
  -- back from one, where the frame below is then this one
  Leaves : Option Activation → Doing
  -- the new thread, and the place behind the spawn
  Spawns : Running → ℕ → Doing
  -- a call of an action with these arguments: in a frame with these names and locals, with these names for the results, and
  -- with this place behind the call
  Calls : List Name → List Value → List Name → ℕ → Action → List Value → Doing

-- a call that stands at the place `at`, in a frame with these names and locals
abbrev pub call_doing : List Name → List Value → List Name → ℕ → ℕ → Meaning → List Value → Doing
call_doing names locals results at next (Does action) args = Calls names locals results next action args
call_doing names locals results at next (Runs number proc) args = Enters (new_frame number proc args) at
call_doing names locals results at next Missing args = Waits

-- whether an expression is true in a frame
abbrev pub is_true_in : Plain → Proc → List Value → Expr → Bool
is_true_in plain proc locals e = is_true (value_of (frame_values plain.program.globals proc locals) e)

-- a loop at the place `at`: into its body, behind which the loop comes again, or past it
abbrev pub loop_doing : Plain → Proc → List Value → ℕ → ℕ → Expr → List Stmt → Doing
loop_doing plain proc locals at next e body = Goes locals (if is_true_in plain proc locals e then start_of body (at + 1) at else next)

-- a statement of a procedure with this number and this place after it. A `yield`, a `commit` and an `intro` are no statements
-- of a plain program, and never stand at a spot
abbrev pub statement_doing : Plain → Proc → List Value → ℕ → ℕ → stmt.Stmt-F Stmt → Doing
statement_doing plain proc locals at next (stmt.Assign x e) =
    Goes (slice_set locals (place_of (names_in_proc proc) x) (value_of (frame_values plain.program.globals proc locals) e)) next
statement_doing plain proc locals at next (stmt.Assert e) = if is_true_in plain proc locals e then Goes locals next else Fails
statement_doing plain proc locals at next (stmt.If e a b) =
    Goes locals (if is_true_in plain proc locals e then start_of a (at + 1) next else start_of b (at + 1 + sizes_of a) next)
statement_doing plain proc locals at next (stmt.While e a) = loop_doing plain proc locals at next e a
statement_doing plain proc locals at next (stmt.YieldLoop e i a) = loop_doing plain proc locals at next e a
statement_doing plain proc locals at next (stmt.RankLoop e r i a) = loop_doing plain proc locals at next e a
statement_doing plain proc locals at next (stmt.Call f es rs) =
    call_doing (names_in_proc proc) locals rs at next (called plain f) (values_of (frame_values plain.program.globals proc locals) es)
statement_doing plain proc locals at next (stmt.Spawn f es) =
    Spawns (record { callee = proc_number plain.program f; args = values_of (frame_values plain.program.globals proc locals) es; state = Before }) next
statement_doing plain proc locals at next _ = Waits

-- the topmost frame is removed; the thread's first frame has no results
abbrev pub leaving : Plain → List Value → Option Activation → Doing
leaving plain outs caller = Leaves (option_map (returned plain outs) caller)

abbrev pub spot_doing : Plain → Option Activation → Activation → Proc → Option Spot → Doing
spot_doing plain caller frame proc None = leaving plain (outs_in proc frame.locals) caller
spot_doing plain caller frame proc (Some s) = statement_doing plain proc frame.locals s.number s.next (out-Stmt s.stmt)

abbrev pub proc_doing : Plain → Option Activation → Activation → Option Proc → Doing
proc_doing plain caller frame None = Waits
proc_doing plain caller frame (Some proc) = spot_doing plain caller frame proc (spot_at proc.body frame.place)

abbrev pub state_doing : Plain → Running → State → Doing
state_doing plain thread After = Ends
state_doing plain thread Before = call_doing [] [] [] 0 0 (meaning_of plain thread.callee) thread.args
state_doing plain thread (Inside below frame) = proc_doing plain (caller_of below) frame (slice_get plain.program.procs frame.procedure)

abbrev pub doing : Plain → Running → Doing
doing plain thread = state_doing plain thread thread.state

-- ---- what comes of it

-- what an action did, in a frame with these names, locals and results of the call
abbrev pub acted : List Name → List Value → List Name → ℕ → Fired → Change
acted names locals results next fire.GateFalse = change.Stays answer.Failing
acted names locals results next fire.Blocked = change.Stays answer.Blocked
acted names locals results next (fire.Moved store outs) = change.Acts store (with_results names locals results outs) next

-- a call of an action: Failing where its gate is false, else BadChoices where the choices don't fit, else Blocked where
-- its guard is false
abbrev pub action_change : Plain → Store → List Value → List Name → List Value → List Name → ℕ → Action → List Value → Change
action_change plain store chosen names locals results next action args =
    if gate_holds plain.program.globals store action args
    then (if choices_fit action chosen
    then acted names locals results next (fired plain.program.globals store action args chosen)
    else change.Stays answer.BadChoices)
    else change.Stays answer.Failing

-- in this store, with these values for the choices
abbrev pub done_by : Plain → Store → List Value → Doing → Change
done_by plain store chosen Fails = change.Stays answer.Failing
done_by plain store chosen Waits = change.Stays answer.Blocked
done_by plain store chosen Ends = change.Stays answer.Ended
done_by plain store chosen (Goes locals place) = change.Goes locals place
done_by plain store chosen (Enters frame place) = change.Enters frame place
done_by plain store chosen (Leaves frame) = change.Leaves frame
done_by plain store chosen (Spawns thread place) = change.Spawns thread place
done_by plain store chosen (Calls names locals results next action args) = action_change plain store chosen names locals results next action args

-- what a step of this thread does, with these values for the choices
abbrev pub change_of : Plain → Store → List Value → Running → Change
change_of plain store chosen thread = done_by plain store chosen (doing plain thread)
