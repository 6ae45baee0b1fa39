-- Where a thread stands. (Small-step semantics: the statement at which the topmost activation record goes on.)
use Rattle.std.specs.Prelude.{ℕ, Option, None, Some, slice_get}
use Rattle.civl_tree.specs.declared.program.Proc.{Proc}
use Rattle.civl_meaning.specs.declared.config.Plain.{Plain}
use Rattle.civl_meaning.specs.declared.config.Activation.{Activation}
use Rattle.civl_meaning.specs.declared.config.State.{State}
use Rattle.civl_meaning.specs.declared.config.State.TheVariants as state
use Rattle.civl_meaning.specs.declared.config.Running.{Running}
use Rattle.civl_meaning.specs.Places.{Spot, spot_at}
use Rattle.civl_history.specs.declared.stand.Stand.{Stand}
use Rattle.civl_history.specs.declared.stand.Stand.TheVariants.{Begins, Before, Leaves, Ended}

-- the statement that a plain program goes on with from a place of this procedure; where there is no procedure there is none
abbrev pub spot_in_proc : Option Proc → ℕ → Option Spot
spot_in_proc None place = None
spot_in_proc (Some proc) place = spot_at proc.body place

-- the statement with which a frame goes on
abbrev pub spot_of_frame : Plain → Activation → Option Spot
spot_of_frame plain frame = spot_in_proc (slice_get plain.program.procs frame.procedure) frame.place

-- before that statement, which has a number of its own; where there is none, at the end of the procedure
abbrev pub frame_stands : ℕ → Option Spot → Stand
frame_stands procedure None = Leaves procedure
frame_stands procedure (Some spot) = Before procedure spot.number

-- the topmost frame says where a thread stands
abbrev pub state_stands : Plain → ℕ → State → Stand
state_stands plain callee state.Before = Begins callee
state_stands plain callee (state.Inside below top) = frame_stands top.procedure (spot_of_frame plain top)
state_stands plain callee state.After = Ended callee

-- where a thread stands
abbrev pub stands : Plain → Running → Stand
stands plain thread = state_stands plain thread.callee thread.state
