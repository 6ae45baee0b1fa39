-- The frames of a thread, as lists of statements that are still to run. A configuration has a place in a body for them.
use Rattle.std.specs.Prelude.{ℕ, ◌≡◌, List, [], ◌∷◌, ◌++◌, length, map, Option, None, Some, slice_get}
use Rattle.civl_tree.specs.declared.stmt.Stmt.{Stmt}
use Rattle.civl_tree.specs.declared.stmt.Stmt as stmt
use Rattle.civl_tree.specs.declared.program.Proc.{Proc}
use Rattle.civl_meaning.specs.declared.config.Plain.{Plain}
use Rattle.civl_meaning.specs.declared.config.Activation.{Activation}
use Rattle.civl_meaning.specs.declared.config.State.{State}
use Rattle.civl_meaning.specs.declared.config.State.TheVariants.{Before, Inside, After}
use Rattle.civl_meaning.specs.declared.config.Running.{Running}
use Rattle.civl_meaning.specs.declared.frame_copy.Frame.{Frame}
use Rattle.civl_meaning.specs.Depth.{depth_of}
use Rattle.civl_meaning.specs.Rest.{Rest, rest_at}

-- the statements of a rest, without their numbers
abbrev pub unnumbered : Rest → List Stmt
unnumbered rest = map (λ q. q.1) rest

-- what is still to run from a place of this procedure's body on; of no procedure there is nothing
abbrev pub left_in : Option Proc → ℕ → List Stmt
left_in None place = []
left_in (Some proc) place = unnumbered (rest_at proc.body place)

-- the frame of a procedure
abbrev pub frame_in : Plain → Activation → Frame
frame_in plain frame = record { locals = frame.locals; rest = left_in (slice_get plain.program.procs frame.procedure) frame.place }

-- the call of this procedure, written with no arguments and no results
abbrev pub bare_call : Option Proc → List Stmt
bare_call None = []
bare_call (Some proc) = stmt.Call proc.name [] [] ∷ []

-- a thread's first frame has its call before it, until this has returned
abbrev pub call_left : Plain → ℕ → State → List Stmt
call_left plain callee Before = bare_call (slice_get plain.program.procs callee)
call_left plain callee (Inside below top) = bare_call (slice_get plain.program.procs callee)
call_left plain callee After = []

abbrev pub first_frame : Plain → Running → Frame
first_frame plain thread = record { locals = thread.args; rest = call_left plain thread.callee thread.state }

-- the frames above the first
abbrev pub frames_above : Plain → State → List Frame
frames_above plain Before = []
frames_above plain (Inside below top) = map (frame_in plain) below ++ frame_in plain top ∷ []
frames_above plain After = []

-- a thread's frames, the first one first
abbrev pub frames_of : Plain → Running → List Frame
frames_of plain thread = first_frame plain thread ∷ frames_above plain thread.state

-- there are as many as the thread is deep
abbrev pub FramesAreDepth : Type 0
FramesAreDepth = (plain : Plain) (thread : Running) → length (frames_of plain thread) ≡ depth_of thread
