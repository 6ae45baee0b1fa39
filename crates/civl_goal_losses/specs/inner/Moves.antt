-- A step of a thread that is alone, and what it came to.
use Rattle.std.specs.Prelude.{List, [], ◌∷◌, Option, None, Some, option_map, option_and_then, slice_get}
use Rattle.civl_bits.specs.declared.value.Value.{Value}
use Rattle.civl_tree.specs.declared.program.Program.{Program}
use Rattle.civl_firing.specs.declared.store.Store.{Store}
use Rattle.civl_meaning.specs.declared.config.Activation.{Activation}
use Rattle.civl_meaning.specs.declared.config.Config.{Config}
use Rattle.civl_meaning.specs.declared.config.Move.{Move}
use Rattle.civl_meaning.specs.declared.config.Running.{Running}
use Rattle.civl_meaning.specs.declared.config.State.{State}
use Rattle.civl_meaning.specs.declared.config.State.TheVariants.{Before, Inside, After}
use Rattle.civl_meaning.specs.declared.config.Stepped.{Stepped}
use Rattle.civl_meaning.specs.declared.config.Stepped.TheVariants.{Moved}
use Rattle.civl_meaning.specs.Change.{new_frame}
use Rattle.civl_meaning.specs.Layers.{topmost}
use Rattle.civl_meaning.specs.Step.{step_of}
use Rattle.civl_goal_losses.specs.declared.losses.Moment.{Moment}
use Rattle.civl_goal_losses.specs.GoalLosses.{moment}

-- one thread, in this frame
abbrev pub alone : Store → Activation → Config
alone g frame = record { store = g; threads = record { callee = 0; args = []; state = Inside [] frame } ∷ [] }

abbrev pub first_move : List Value → Move
first_move chosen = record { thread = 0; choices = chosen }

-- the configuration behind a step that was made
abbrev pub moved : Stepped × Config → Option Config
moved (Moved, config) = Some config
moved _ = None

-- behind the step of a thread that is alone, in the topmost program
abbrev pub stepped : Program → Store → Activation → List Value → Option Config
stepped program g frame chosen = moved (step_of (topmost program) (alone g frame) (first_move chosen))

-- the moment of a thread with one frame
abbrev pub moment_of : Store → State → Option Moment
moment_of g (Inside [] frame) = Some (moment g frame)
moment_of g (Inside (below ∷ belows) frame) = None
moment_of g Before = None
moment_of g After = None

-- that of the first thread
abbrev pub first_moment : Config → Option Moment
first_moment config = option_and_then (λ (thread : Running). moment_of config.store thread.state) (slice_get config.threads 0)

-- the first frame of a thread
abbrev pub begins : Program → Running → Option Activation
begins program thread = option_map (λ proc. new_frame thread.callee proc thread.args) (slice_get program.procs thread.callee)

-- that of the second thread
abbrev pub spawned : Program → Config → Option Activation
spawned program config = option_and_then (begins program) (slice_get config.threads 1)
