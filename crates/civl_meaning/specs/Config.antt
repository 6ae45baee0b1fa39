-- When a configuration is one of a plain program: each thread began with a call with which the program's threads begin,
-- each frame has the locals of its procedure and stands at a place of its body, and each frame with another one above it
-- waits in the call that made this.
use Rattle.std.specs.Prelude.{ℕ, ◌≡◌, ◌≤◌, Bool, true, false, ◌||◌, nat_eq, List, [], ◌∷◌, ◌++◌, length, map, Option, None, Some, slice_get, IsTrue, All, ⊤}
use Rattle.std.specs.List.{list_any}
use Rattle.civl_bits.specs.declared.value.Value.{Value}
use Rattle.civl_tree.specs.declared.action.Action.{Action}
use Rattle.civl_tree.specs.declared.expr.Sort.{Sort}
use Rattle.civl_tree.specs.declared.program.Proc.{Proc}
use Rattle.civl_tree.specs.declared.program.Program.{Program}
use Rattle.civl_tree.specs.declared.stmt.Stmt.{Stmt, out-Stmt}
use Rattle.civl_tree.specs.declared.stmt.Stmt.TheOpen.{Stmt-F, Call, Spawn}
use Rattle.civl_tree.specs.Numbering.{statements_of, sizes_of}
use Rattle.civl_tree.specs.rules.Uses.{param_sorts}
use Rattle.civl_tree.specs.rules.Rules.{Keeps}
use Rattle.civl_tree.specs.rules.Typing.{typing_rules, signature_rule}
use Rattle.civl_firing.specs.declared.store.Store.{Store}
use Rattle.civl_meaning.specs.declared.config.Move.{Move}
use Rattle.civl_meaning.specs.declared.config.Plain.{Plain}
use Rattle.civl_meaning.specs.declared.config.Activation.{Activation}
use Rattle.civl_meaning.specs.declared.config.State.{State}
use Rattle.civl_meaning.specs.declared.config.State.TheVariants.{Before, Inside, After}
use Rattle.civl_meaning.specs.declared.config.Running.{Running}
use Rattle.civl_meaning.specs.declared.config.Config.{Config}
use Rattle.civl_firing.specs.values.Values.{HaveSorts}
use Rattle.civl_firing.specs.Stores.{IsStore}
use Rattle.civl_meaning.specs.Places.{Spot, spot_at}
use Rattle.civl_meaning.specs.Meaning.{Meaning, Does, Runs, Missing, meaning_of, called, proc_number}
use Rattle.civl_meaning.specs.Step.{start, step_of}
use Rattle.civl_meaning.specs.Run.{RunsTo}

-- a plain program that keeps the rules on names, counts, widths, sorts, indices, numbers of arguments and signatures, and
-- says of each procedure whether a call of it means its body, as it does of each root
pub record IsPlain (plain : Plain) : Type 0 where
  pub rules : Keeps typing_rules plain.program
  pub signatures : Keeps (signature_rule ∷ []) plain.program
  pub bodies : length plain.bodies ≡ length plain.program.procs
  pub roots : (number : ℕ) (proc : Proc) → slice_get plain.program.procs number ≡ Some proc → proc.refines ≡ None → slice_get plain.bodies number ≡ Some true

-- ---- the call with which a thread begins

-- it spawns a thread that calls the procedure with this number
abbrev pub layer_spawns : Program → ℕ → Stmt-F Stmt → Bool
layer_spawns program number (Spawn f es) = nat_eq (proc_number program f) number
layer_spawns program number _ = false

abbrev pub spawns : Program → ℕ → Stmt → Bool
spawns program number stmt = layer_spawns program number (out-Stmt stmt)

-- a declared thread calls this procedure, or a statement spawns a thread that does
abbrev pub begins_threads : Program → ℕ → Bool
begins_threads program number =
    list_any (λ t. nat_eq (proc_number program t.callee) number) program.threads
    || list_any (λ p. list_any (spawns program number) (statements_of p.body)) program.procs

-- a thread that has its call before it or is in it: its arguments have the sorts of the procedure's parameters
pub record IsBegun (plain : Plain) (thread : Running) : Type 0 where
  pub proc : Proc
  pub there : slice_get plain.program.procs thread.callee ≡ Some proc
  pub args : HaveSorts thread.args (param_sorts proc.params)
  pub begins : IsTrue (begins_threads plain.program thread.callee)

-- ---- the frames above the first

-- the sorts of a procedure's parameters, outputs and locals
abbrev pub frame_sorts : Proc → List Sort
frame_sorts proc = param_sorts proc.params ++ (param_sorts proc.outs ++ map (λ l. l.sort) proc.locals)

-- the sorts of an action's choices
abbrev pub choice_sorts : Action → List Sort
choice_sorts action = map (λ choice. choice.sort) action.choices

-- the frame with other locals at another place
abbrev pub moved_frame : Activation → List Value → ℕ → Activation
moved_frame frame locals place = record { procedure = frame.procedure; place = place; locals = locals }

-- a frame has a value of its sort for each of its procedure's parameters, outputs and locals
pub record HasLocals (plain : Plain) (frame : Activation) : Type 0 where
  pub proc : Proc
  pub there : slice_get plain.program.procs frame.procedure ≡ Some proc
  pub locals : HaveSorts frame.locals (frame_sorts proc)

-- a frame stands at a place of its procedure's body, or at the exit: its statements are those from there on
pub record IsPlaced (plain : Plain) (frame : Activation) : Type 0 where
  pub proc : Proc
  pub there : slice_get plain.program.procs frame.procedure ≡ Some proc
  pub place : frame.place ≤ sizes_of proc.body

-- a call means the body of the procedure with this number
abbrev pub IsBodyOf : ℕ → Meaning → Type 0
IsBodyOf number (Runs other proc) = other ≡ number
IsBodyOf number (Does action) = ⊥
IsBodyOf number Missing = ⊥

abbrev pub LayerCalls : Plain → ℕ → Stmt-F Stmt → Type 0
LayerCalls plain number (Call f es rs) = IsBodyOf number (called plain f)
LayerCalls plain number _ = ⊥

-- at its place stands a call that means this body
abbrev pub SpotCalls : Plain → ℕ → ℕ → Option Spot → Type 0
SpotCalls plain number place None = ⊥
SpotCalls plain number place (Some s) = (s.number ≡ place) × LayerCalls plain number (out-Stmt s.stmt)

abbrev pub ProcCalls : Plain → ℕ → ℕ → Option Proc → Type 0
ProcCalls plain number place None = ⊥
ProcCalls plain number place (Some proc) = SpotCalls plain number place (spot_at proc.body place)

-- the first statement of a frame that is still to run is a call that means this body
abbrev pub Waits : Plain → ℕ → Activation → Type 0
Waits plain number frame = ProcCalls plain number frame.place (slice_get plain.program.procs frame.procedure)

-- the procedure of the first of these frames, of which `top` is the last
abbrev pub next_procedure : List Activation → Activation → ℕ
next_procedure [] top = top.procedure
next_procedure (frame ∷ frames) top = frame.procedure

-- each of these frames waits in the call that made the next
abbrev pub AreWaiting : Plain → List Activation → Activation → Type 0
AreWaiting plain [] top = ⊤
AreWaiting plain (frame ∷ frames) top = Waits plain (next_procedure frames top) frame × AreWaiting plain frames top

-- the frames above a thread's first one, whose call calls this procedure
pub record IsStack (plain : Plain) (callee : ℕ) (below : List Activation) (top : Activation) : Type 0 where
  pub placed : All (IsPlaced plain) below
  pub topmost : IsPlaced plain top
  pub first : IsBodyOf (next_procedure below top) (meaning_of plain callee)
  pub waiting : AreWaiting plain below top

abbrev pub StateIsStacked : Plain → ℕ → State → Type 0
StateIsStacked plain callee Before = ⊤
StateIsStacked plain callee (Inside below top) = IsStack plain callee below top
StateIsStacked plain callee After = ⊤

-- a thread's frames stand at their places, and each below the topmost waits in the call that made the next
abbrev pub IsStacked : Plain → Running → Type 0
IsStacked plain thread = StateIsStacked plain thread.callee thread.state

-- ---- the whole

-- the values of a thread have their sorts
abbrev pub StateIsSorted : Plain → Running → State → Type 0
StateIsSorted plain thread Before = IsBegun plain thread
StateIsSorted plain thread (Inside below top) = IsBegun plain thread × All (HasLocals plain) below × HasLocals plain top
StateIsSorted plain thread After = ⊤

abbrev pub ThreadIsSorted : Plain → Running → Type 0
ThreadIsSorted plain thread = StateIsSorted plain thread thread.state

pub record IsOf (plain : Plain) (config : Config) : Type 0 where
  pub store : IsStore plain.program.globals config.store
  pub sorted : All (ThreadIsSorted plain) config.threads
  pub stacked : All (IsStacked plain) config.threads

-- a program starts with one of its configurations
abbrev pub StartIsOf : Type 0
StartIsOf = (plain : Plain) (store : Store) → IsPlain plain → IsStore plain.program.globals store → IsOf plain (start plain store)

-- a step keeps the frames stacked, in any program
abbrev pub StepKeepsStacks : Type 0
StepKeepsStacks = (plain : Plain) (config : Config) (move : Move) → All (IsStacked plain) config.threads → All (IsStacked plain) (step_of plain config move).1.threads

-- so does a run
abbrev pub RunKeepsStacks : Type 0
RunKeepsStacks = (plain : Plain) (moves : List Move) (from to : Config) → RunsTo plain moves from to → All (IsStacked plain) from.threads → All (IsStacked plain) to.threads
