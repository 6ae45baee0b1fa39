-- For private functions alone: what lies ahead of a thread, and what its step did, as seen from its states before and behind.
use Rattle.std.specs.Prelude.{ℕ, ◌≡◌, nat_lt, List, [], length, Option, None, Some, if◌then◌else◌}
use Rattle.civl_bits.specs.declared.value.Value.{Value}
use Rattle.civl_tree.specs.declared.stmt.Stmt.{Stmt, out-Stmt}
use Rattle.civl_tree.specs.declared.stmt.Stmt.TheOpen as stmt
use Rattle.civl_meaning.specs.declared.config.Plain.{Plain}
use Rattle.civl_meaning.specs.declared.config.Activation.{Activation}
use Rattle.civl_meaning.specs.declared.config.State.{State}
use Rattle.civl_meaning.specs.declared.config.State.TheVariants as state
use Rattle.civl_meaning.specs.declared.config.Running.{Running}
use Rattle.civl_meaning.specs.declared.config.Config.{Config}
use Rattle.civl_meaning.specs.Change.{caller_of}
use Rattle.civl_history.specs.declared.ahead.Ahead.{Ahead}
use Rattle.civl_history.specs.declared.ahead.Ahead.TheVariants as code
use Rattle.civl_history.specs.declared.changes.Changed.{Changed}
use Rattle.civl_history.specs.declared.kept.Kept.{Kept}
use Rattle.civl_meaning.specs.declared.config.Stepped.{Stepped}
use Rattle.civl_meaning.specs.declared.config.Stepped.TheVariants as answer
use Rattle.civl_history.specs.declared.moves.MadeMove.{MadeMove}
use Rattle.civl_history.specs.declared.moves.StepKind.{StepKind}
use Rattle.civl_history.specs.declared.telling.Outcome.{Outcome}
use Rattle.civl_history.specs.declared.telling.Outcome.TheVariants as outcome
use Rattle.civl_history.specs.declared.moves.StepKind.TheVariants as kind
use Rattle.civl_history.specs.declared.stand.Stand.{Stand}
use Rattle.civl_history.specs.declared.stand.Stand.TheVariants as stand
use Rattle.civl_history.specs.Stands.{spot_of_frame}
use Rattle.civl_history.specs.History.{changes, locals_of}
use Rattle.civl_history.specs.inner.Spots.{numbered_spot}

-- ---- what lies ahead

-- its first call; a statement of the procedure with this number, with its own number; the end of such a procedure; nothing, behind its call
pub data Next : Type 0 where
  Begins : ℕ → Next
  Statement : ℕ → ℕ → Stmt → Next
  Exit : ℕ → Next
  Ended : ℕ → Next

-- what the code says
abbrev pub said : Ahead → Next
said (code.Begins callee) = Begins callee
said (code.Statement procedure numbered) = Statement procedure numbered.number numbered.stmt.now
said (code.Exit procedure) = Exit procedure
said (code.Ended callee) = Ended callee

abbrev pub frame_next : ℕ → Option (ℕ × Stmt) → Next
frame_next procedure None = Exit procedure
frame_next procedure (Some numbered) = Statement procedure numbered.0 numbered.1

abbrev pub state_next : Plain → ℕ → State → Next
state_next plain callee state.Before = Begins callee
state_next plain callee (state.Inside below top) = frame_next top.procedure (numbered_spot (spot_of_frame plain top))
state_next plain callee state.After = Ended callee

abbrev pub next_of : Plain → Running → Next
next_of plain thread = state_next plain thread.callee thread.state

abbrev pub stand_before : Next → Stand
stand_before (Begins callee) = stand.Begins callee
stand_before (Statement procedure number stmt) = stand.Before procedure number
stand_before (Exit procedure) = stand.Leaves procedure
stand_before (Ended callee) = stand.Ended callee

-- ---- what is kept of a thread before its move

-- how many frames stand below the topmost one
abbrev pub below_of : State → ℕ
below_of state.Before = 0
below_of (state.Inside below top) = length below
below_of state.After = 0

-- the locals that its step may change
abbrev pub frame_kept : List Activation → Activation → Next → List Value
frame_kept below top (Begins callee) = top.locals
frame_kept below top (Statement procedure number stmt) = top.locals
frame_kept below top (Exit procedure) = locals_of (caller_of below)
frame_kept below top (Ended callee) = top.locals

abbrev pub locals_kept : State → Next → List Value
locals_kept state.Before next = []
locals_kept (state.Inside below top) next = frame_kept below top next
locals_kept state.After next = []

-- what is kept of a configuration before a move of this thread
pub record IsKept (plain : Plain) (config : Config) (thread : Running) (kept : Kept) : Type 0 where
  pub ahead : said kept.ahead ≡ next_of plain thread
  pub threads : kept.threads ≡ length config.threads
  pub below : kept.below ≡ below_of thread.state
  pub store : kept.store ≡ config.store.values
  pub locals : kept.locals ≡ locals_kept thread.state (next_of plain thread)

-- ---- what the step did

-- a call that is behind: with another frame on top, it means a body
abbrev pub call_kind : ℕ → State → StepKind
call_kind below state.Before = kind.Acts
call_kind below (state.Inside above top) = if nat_lt below (length above) then kind.Enters top.procedure else kind.Acts
call_kind below state.After = kind.Acts

abbrev pub form_kind : ℕ → ℕ → stmt.Stmt-F Stmt → State → StepKind
form_kind threads below (stmt.Call callee args results) behind = call_kind below behind
form_kind threads below (stmt.Spawn callee args) behind = kind.Spawns threads
form_kind threads below _ behind = kind.Goes

abbrev pub first_kind : State → StepKind
first_kind state.Before = kind.Acts
first_kind (state.Inside below top) = kind.Enters top.procedure
first_kind state.After = kind.Acts

abbrev pub exit_kind : State → StepKind
exit_kind state.Before = kind.Ends
exit_kind (state.Inside below top) = kind.Returns top.procedure
exit_kind state.After = kind.Ends

-- by what lay ahead, and where the thread is then
abbrev pub kind_seen : ℕ → ℕ → Next → State → StepKind
kind_seen threads below (Begins callee) behind = first_kind behind
kind_seen threads below (Statement procedure number s) behind = form_kind threads below (out-Stmt s) behind
kind_seen threads below (Exit procedure) behind = exit_kind behind
kind_seen threads below (Ended callee) behind = kind.Ends

abbrev pub top_locals : State → List Value
top_locals state.Before = []
top_locals (state.Inside below top) = top.locals
top_locals state.After = []

abbrev pub locals_seen : StepKind → List Value → State → List Changed
locals_seen kind.Goes kept behind = changes kept (top_locals behind)
locals_seen kind.Acts kept behind = changes kept (top_locals behind)
locals_seen (kind.Returns procedure) kept behind = changes kept (top_locals behind)
locals_seen (kind.Enters procedure) kept behind = []
locals_seen kind.Ends kept behind = []
locals_seen (kind.Spawns thread) kept behind = []

-- what is told of a move, by what was kept before it, and where its thread is in the configuration behind it
abbrev pub told_kept : ℕ → Kept → Config → State → MadeMove
told_kept thread kept config behind = record {
  thread = thread;
  stood = stand_before (said kept.ahead);
  kind = kind_seen kept.threads kept.below (said kept.ahead) behind;
  globals = changes kept.store config.store.values;
  locals = locals_seen (kind_seen kept.threads kept.below (said kept.ahead) behind) kept.locals behind;
}

-- an outcome's answer, and what it tells
abbrev pub answer_of : Outcome → Stepped
answer_of (outcome.Made made) = answer.Moved
answer_of (outcome.Refused stepped) = stepped

abbrev pub move_of : Outcome → Option MadeMove
move_of (outcome.Made made) = Some made
move_of (outcome.Refused stepped) = None
