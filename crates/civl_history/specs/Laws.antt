-- What the definitions say together.
use Rattle.std.specs.Prelude.{◌≡◌, ◌≢◌, ℕ, false, List, [], ◌∷◌, length, take, Some, slice_get, slice_set, min, IsTrue, ◌-◌, ◌++◌}
use Rattle.civl_bits.specs.declared.value.Value.{Value}
use Rattle.civl_tree.specs.declared.program.Proc.{Proc}
use Rattle.civl_tree.specs.declared.stmt.Stmt.{Stmt, out-Stmt}
use Rattle.civl_tree.specs.declared.stmt.Stmt.TheOpen as stmt
use Rattle.civl_tree.specs.Numbering.{statement_at}
use Rattle.civl_firing.specs.declared.store.Store.{Store}
use Rattle.civl_firing.specs.Eval.{values_of}
use Rattle.civl_firing.specs.Fired.{gate_holds}
use Rattle.civl_firing.specs.Scope.{frame_values}
use Rattle.civl_meaning.specs.declared.config.Activation.{Activation}
use Rattle.civl_meaning.specs.declared.config.Config.{Config}
use Rattle.civl_meaning.specs.declared.config.Move.{Move}
use Rattle.civl_meaning.specs.declared.config.Plain.{Plain}
use Rattle.civl_meaning.specs.declared.config.Running.{Running}
use Rattle.civl_meaning.specs.declared.config.State.{State}
use Rattle.civl_meaning.specs.declared.config.State.TheVariants as state
use Rattle.civl_meaning.specs.declared.config.Stepped.TheVariants as answer
use Rattle.civl_meaning.specs.Change.{change_of, is_true_in}
use Rattle.civl_meaning.specs.Failing.{thread_fails}
use Rattle.civl_meaning.specs.Meaning.{Meaning, Does, Runs, Missing, meaning_of, called}
use Rattle.civl_meaning.specs.Places.{is_skipped}
use Rattle.civl_meaning.specs.Run.{RunsTo, run_of}
use Rattle.civl_meaning.specs.Step.{step_of}
use Rattle.civl_history.specs.declared.changes.Changed.{Changed}
use Rattle.civl_history.specs.declared.moves.MadeMove.{MadeMove}
use Rattle.civl_history.specs.declared.stand.Stand.{Stand}
use Rattle.civl_history.specs.declared.stand.Stand.TheVariants as stand
use Rattle.civl_history.specs.Stands.{stands}
use Rattle.civl_history.specs.History.{changes, kind_of, locals_of, history}

-- ---- runs

-- the frames above a thread's first, the topmost last
abbrev pub frames_in : State → List Activation
frames_in state.Before = []
frames_in (state.Inside below top) = below ++ top ∷ []
frames_in state.After = []

-- as many frames as a thread has in both of two states
abbrev pub shared : State → State → ℕ
shared before behind = min (length (frames_in before)) (length (frames_in behind))

-- the locals of the last of the first frames, where they are so many
abbrev pub locals_at : State → ℕ → List Value
locals_at state count = locals_of (slice_get (frames_in state) (count - 1))

-- what differs of the locals in the topmost of the frames that a thread has in both of two states; nothing, where it has none in
-- one of them
abbrev pub shared_changes : State → State → List Changed
shared_changes before behind = changes (locals_at before (shared before behind)) (locals_at behind (shared before behind))

-- a move is told as it is made, from one configuration to another
pub record IsToldOf (plain : Plain) (here : Config) (move : Move) (next : Config) (made : MadeMove) : Type 0 where
  pub step : step_of plain here move ≡ (answer.Moved, next)
  pub thread : Running
  pub there : slice_get here.threads move.thread ≡ Some thread
  pub number : made.thread ≡ move.thread
  pub stood : made.stood ≡ stands plain thread
  pub kind : kind_of (length here.threads) (change_of plain here.store move.choices thread) ≡ Some made.kind
  pub globals : made.globals ≡ changes here.store.values next.store.values
  pub behind : Running
  pub there_behind : slice_get next.threads move.thread ≡ Some behind
  pub locals : made.locals ≡ shared_changes thread.state behind.state

-- it is told of the move with this number among these, from the configuration to which the moves before it run
pub record IsToldAt (plain : Plain) (first : Config) (moves : List Move) (number : ℕ) (made : MadeMove) : Type 0 where
  pub move : Move
  pub there : slice_get moves number ≡ Some move
  pub here : Config
  pub runs : RunsTo plain (take number moves) first here
  pub next : Config
  pub told : IsToldOf plain here move next made

-- Each entry is told of its move, where the moves before it have led.
abbrev pub EachIsTold : Type 0
EachIsTold = (plain : Plain) (first : Config) (moves : List Move) (number : ℕ) (made : MadeMove)
    → slice_get (history plain first moves) number ≡ Some made → IsToldAt plain first moves number made

-- As many moves are told as are made.
abbrev pub AsManyAsMade : Type 0
AsManyAsMade = (plain : Plain) (first : Config) (moves : List Move) → length (history plain first moves) ≡ (run_of plain moves 0 first).0

-- ---- where threads stand

-- the statement with this number of the procedure with that number
pub record IsStatement (plain : Plain) (procedure number : ℕ) (proc : Proc) (statement : Stmt) : Type 0 where
  pub proc_there : slice_get plain.program.procs procedure ≡ Some proc
  pub there : statement_at proc.body number ≡ Some statement
  pub plain_one : is_skipped statement ≡ false

-- Where a thread stands before a statement, the procedure has one with that number, which a plain program doesn't pass over.
abbrev pub StatementsStand : Type 0
StatementsStand = (plain : Plain) (thread : Running) (procedure number : ℕ) → stands plain thread ≡ stand.Before procedure number
    → (proc : Proc) × (statement : Stmt) × IsStatement plain procedure number proc statement

-- ---- where threads fail

-- a call of an action whose gate is false
abbrev pub ActionFails : Plain → Store → Meaning → List Value → Type 0
ActionFails plain store (Does action) args = gate_holds plain.program.globals store action args ≡ false
ActionFails plain store (Runs number proc) args = ⊥
ActionFails plain store Missing args = ⊥

-- such a call, or an assert that is false, in a frame with these locals
abbrev pub FormFails : Plain → Store → Proc → List Value → stmt.Stmt-F Stmt → Type 0
FormFails plain store proc locals (stmt.Assert fact) = is_true_in plain proc locals fact ≡ false
FormFails plain store proc locals (stmt.Call callee args results) =
    ActionFails plain store (called plain callee) (values_of (frame_values plain.program.globals proc locals) args)
FormFails plain store proc locals _ = ⊥

-- the locals of the topmost frame; a thread that isn't in its call has none
abbrev pub locals_in : State → List Value
locals_in state.Before = []
locals_in (state.Inside below top) = top.locals
locals_in state.After = []

-- with these arguments of its first call, and these locals of its topmost frame, a thread fails where it stands: its first call
-- does, or that statement
abbrev pub FailsAt : Plain → Store → List Value → List Value → Stand → Type 0
FailsAt plain store args locals (stand.Begins callee) = ActionFails plain store (meaning_of plain callee) args
FailsAt plain store args locals (stand.Before procedure number) =
    (proc : Proc) × (statement : Stmt) × IsStatement plain procedure number proc statement
    × FormFails plain store proc locals (out-Stmt statement)
FailsAt plain store args locals (stand.Leaves procedure) = ⊥
FailsAt plain store args locals (stand.Ended callee) = ⊥

-- A thread that fails stands before the call or the assert that fails.
abbrev pub FailingStandsThere : Type 0
FailingStandsThere = (plain : Plain) (store : Store) (thread : Running) → IsTrue (thread_fails plain store thread)
    → FailsAt plain store thread.args (locals_in thread.state) (stands plain thread)

-- ---- what changed

-- values in which these are changed
abbrev pub written : List Changed → List Value → List Value
written [] values = values
written (changed ∷ others) values = written others (slice_set values changed.place changed.after)

-- Of two lists of one length the second is the first with the changes made,
abbrev pub ChangesLead : Type 0
ChangesLead = (before after : List Value) → length before ≡ length after → written (changes before after) before ≡ after

-- and each change is one: another value stands at that place in the second list than in the first.
abbrev pub ChangesDiffer : Type 0
ChangesDiffer = (before after : List Value) (number : ℕ) (changed : Changed) → slice_get (changes before after) number ≡ Some changed
    → (slice_get before changed.place ≡ Some changed.before) × (slice_get after changed.place ≡ Some changed.after)
    × (changed.before ≢ changed.after)
