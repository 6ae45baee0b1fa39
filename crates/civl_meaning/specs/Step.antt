-- Part of the claim: docs/CLAIM.md.
-- The step of a configuration: the change of one thread, made. (Small-step interleaving.)
use Rattle.std.specs.Prelude.{◌≡◌, ◌≢◌, ◌<◌, ℕ, ◌-◌, List, [], ◌∷◌, ◌++◌, length, take, map, Option, None, Some, slice_get, slice_set}
use Rattle.civl_bits.specs.declared.value.Value.{Value}
use Rattle.civl_tree.specs.declared.program.Thread.{Thread}
use Rattle.civl_tree.specs.declared.program.Program.{Program}
use Rattle.civl_firing.specs.declared.store.Store.{Store}
use Rattle.civl_meaning.specs.declared.config.Move.{Move}
use Rattle.civl_meaning.specs.declared.config.Plain.{Plain}
use Rattle.civl_meaning.specs.declared.config.Activation.{Activation}
use Rattle.civl_meaning.specs.declared.config.State.{State}
use Rattle.civl_meaning.specs.declared.config.State.TheVariants.{Before, Inside, After}
use Rattle.civl_meaning.specs.declared.config.Running.{Running}
use Rattle.civl_meaning.specs.declared.config.Config.{Config}
use Rattle.civl_meaning.specs.declared.config.Stepped.{Stepped}
use Rattle.civl_meaning.specs.declared.config.Stepped.TheVariants as answer
use Rattle.civl_meaning.specs.declared.config.Change.{Change}
use Rattle.civl_meaning.specs.declared.config.Change.TheVariants.{Stays, Goes, Acts, Enters, Leaves, Spawns}
use Rattle.civl_firing.specs.Eval.{values_of}
use Rattle.civl_firing.specs.Scope.{global_values}
use Rattle.civl_meaning.specs.Meaning.{proc_number}
use Rattle.civl_meaning.specs.Change.{change_of}

-- a declared thread before its call, whose arguments are evaluated in the store
abbrev pub begun : Program → Store → Thread → Running
begun program store thread = record {
  callee = proc_number program thread.callee;
  args = values_of (global_values program.globals store) thread.args;
  state = Before;
}

-- the configuration in which a program starts from a store
abbrev pub start : Plain → Store → Config
start plain store = record { store = store; threads = map (begun plain.program store) plain.program.threads }

-- the topmost frame with other locals and at another place; a call in a thread's first frame ends it
abbrev pub goes_on : State → List Value → ℕ → State
goes_on Before locals place = After
goes_on (Inside below frame) locals place = Inside below (record { procedure = frame.procedure; place = place; locals = locals })
goes_on After locals place = After

-- a frame on top, and the one below at a place
abbrev pub enters : State → Activation → ℕ → State
enters Before top place = Inside [] top
enters (Inside below frame) top place = Inside (below ++ (record { procedure = frame.procedure; place = place; locals = frame.locals }) ∷ []) top
enters After top place = After

-- without the topmost frame
abbrev pub left : State → Option Activation → State
left (Inside below frame) None = After
left (Inside below frame) (Some top) = Inside (take (length below - 1) below) top
left Before top = After
left After top = After

-- the topmost frame at another place
abbrev pub moves_on : State → ℕ → State
moves_on Before place = After
moves_on (Inside below frame) place = Inside below (record { procedure = frame.procedure; place = place; locals = frame.locals })
moves_on After place = After

abbrev pub state_after : State → Change → State
state_after state (Stays a) = state
state_after state (Goes locals place) = goes_on state locals place
state_after state (Acts store locals place) = goes_on state locals place
state_after state (Enters frame place) = enters state frame place
state_after state (Leaves frame) = left state frame
state_after state (Spawns thread place) = moves_on state place

-- a thread after its change
abbrev pub thread_after : Running → Change → Running
thread_after thread change = record { callee = thread.callee; args = thread.args; state = state_after thread.state change }

-- the store after a change
abbrev pub store_with : Store → Change → Store
store_with store (Acts after locals place) = after
store_with store _ = store

-- the threads, with the one that a change puts behind them all
abbrev pub with_spawned : List Running → Change → List Running
with_spawned threads (Spawns thread place) = threads ++ thread ∷ []
with_spawned threads _ = threads

-- the configuration after a change of thread t
abbrev pub config_after : Config → ℕ → Running → Change → Config
config_after config t thread change = record {
  store = store_with config.store change;
  threads = with_spawned (slice_set config.threads t (thread_after thread change)) change;
}

-- the answer and the configuration after a change; a refused step leaves the configuration
abbrev pub step_with : Config → ℕ → Running → Change → Stepped × Config
step_with config t thread (Stays a) = (a, config)
step_with config t thread change = (answer.Moved, config_after config t thread change)

abbrev pub step_in : Plain → Config → Move → Option Running → Stepped × Config
step_in plain config move None = (answer.NoThread, config)
step_in plain config move (Some thread) = step_with config move.thread thread (change_of plain config.store move.choices thread)

-- one step of a configuration, by this move
abbrev pub step_of : Plain → Config → Move → Stepped × Config
step_of plain config move = step_in plain config move (slice_get config.threads move.thread)

-- a step that isn't made leaves the configuration
abbrev pub RefusedStays : Type 0
RefusedStays = (plain : Plain) (config : Config) (move : Move) → ((step_of plain config move).0 ≡ answer.Moved → ⊥) → (step_of plain config move).1 ≡ config

-- a step of one thread leaves every other where it is
abbrev pub OthersStay : Type 0
OthersStay =
    (plain : Plain) (config : Config) (move : Move) (t : ℕ) → t ≢ move.thread → t < length config.threads →
    slice_get (step_of plain config move).1.threads t ≡ slice_get config.threads t
