-- The moves of a run one by one: who moved, where it stood, what its step did, and which values that changed. (Execution
-- traces of small-step interleaving, with the differences between configurations in place of the configurations.)
use Rattle.std.specs.Prelude.{ℕ, ◌+◌, List, [], ◌∷◌, ◌++◌, length, Option, None, Some, option_map, slice_get, if◌then◌else◌}
use Rattle.civl_bits.specs.declared.value.Value.{Value}
use Rattle.civl_bits.specs.Value.{same_value}
use Rattle.civl_firing.specs.declared.store.Store.{Store}
use Rattle.civl_meaning.specs.declared.config.Move.{Move}
use Rattle.civl_meaning.specs.declared.config.Plain.{Plain}
use Rattle.civl_meaning.specs.declared.config.Activation.{Activation}
use Rattle.civl_meaning.specs.declared.config.State.{State}
use Rattle.civl_meaning.specs.declared.config.State.TheVariants.{Inside}
use Rattle.civl_meaning.specs.declared.config.Running.{Running}
use Rattle.civl_meaning.specs.declared.config.Config.{Config}
use Rattle.civl_meaning.specs.declared.config.Change.{Change}
use Rattle.civl_meaning.specs.declared.config.Change.TheVariants as change
use Rattle.civl_meaning.specs.Change.{caller_of, change_of}
use Rattle.civl_meaning.specs.Run.{run_of}
use Rattle.civl_meaning.specs.Step.{start, step_of}
use Rattle.civl_history.specs.declared.changes.Changed.{Changed}
use Rattle.civl_history.specs.declared.moves.MadeMove.{MadeMove}
use Rattle.civl_history.specs.declared.moves.StepKind.{StepKind}
use Rattle.civl_history.specs.declared.moves.StepKind.TheVariants.{Goes, Acts, Enters, Returns, Ends, Spawns}
use Rattle.civl_history.specs.declared.stand.Stand.{Stand}
use Rattle.civl_history.specs.Stands.{stands}

-- ---- values

-- a value that became another one
abbrev pub change_at : ℕ → Value → Value → List Changed
change_at place before after = if same_value before after then [] else (record { place = place; before = before; after = after } ∷ [])

-- the values that differ, where these lists begin at this place; behind the end of the shorter one nothing is told
abbrev pub changes_from : ℕ → List Value → List Value → List Changed
changes_from place [] afters = []
changes_from place (before ∷ befores) [] = []
changes_from place (before ∷ befores) (after ∷ afters) = change_at place before after ++ changes_from (place + 1) befores afters

-- the values that differ between two lists, in the order of their places
abbrev pub changes : List Value → List Value → List Changed
changes before after = changes_from 0 before after

-- ---- one move

-- what a change is, where it is one: in a configuration with so many threads
abbrev pub kind_of : ℕ → Change → Option StepKind
kind_of threads (change.Stays answer) = None
kind_of threads (change.Goes locals place) = Some Goes
kind_of threads (change.Acts store locals place) = Some Acts
kind_of threads (change.Enters frame place) = Some (Enters frame.procedure)
kind_of threads (change.Leaves None) = Some Ends
kind_of threads (change.Leaves (Some caller)) = Some (Returns caller.procedure)
kind_of threads (change.Spawns thread place) = Some (Spawns threads)

-- the locals of a frame, where there is one
abbrev pub locals_of : Option Activation → List Value
locals_of None = []
locals_of (Some frame) = frame.locals

-- what changed of the locals: of a statement or an action call in the topmost frame, of a return in the frame below, whose
-- call it ends
abbrev pub local_changes : State → Change → List Changed
local_changes (Inside below top) (change.Goes locals place) = changes top.locals locals
local_changes (Inside below top) (change.Acts store locals place) = changes top.locals locals
local_changes (Inside below top) (change.Leaves (Some caller)) = changes (locals_of (caller_of below)) caller.locals
local_changes _ _ = []

-- a move of this thread, which makes this change
abbrev pub told_change : Plain → Config → Move → Running → Change → Option MadeMove
told_change plain config move thread made = option_map (λ kind. record {
  thread = move.thread;
  stood = stands plain thread;
  kind = kind;
  globals = changes config.store.values (step_of plain config move).1.store.values;
  locals = local_changes thread.state made;
}) (kind_of (length config.threads) made)

abbrev pub told_in : Plain → Config → Move → Option Running → Option MadeMove
told_in plain config move None = None
told_in plain config move (Some thread) = told_change plain config move thread (change_of plain config.store move.choices thread)

-- what is told of a move in a configuration; nothing, where it isn't made there
abbrev pub told : Plain → Config → Move → Option MadeMove
told plain config move = told_in plain config move (slice_get config.threads move.thread)

-- ---- a run

-- a move before others, which are told only if it is made
abbrev pub told_before : Option MadeMove → List MadeMove → List MadeMove
told_before None others = []
told_before (Some made) others = made ∷ others

-- the moves from a configuration that are made, in order, up to the first that isn't
abbrev pub history : Plain → Config → List Move → List MadeMove
history plain config [] = []
history plain config (move ∷ moves) = told_before (told plain config move) (history plain (step_of plain config move).1 moves)

-- ---- where a run ends

-- where the thread with this number stands, if it is there
abbrev pub thread_stands : Plain → Config → Option ℕ → Option Stand
thread_stands plain config None = None
thread_stands plain config (Some number) = option_map (stands plain) (slice_get config.threads number)

-- the configuration to which the moves that are made lead
abbrev pub last_of : Plain → Store → List Move → Config
last_of plain store moves = (run_of plain moves 0 (start plain store)).2

-- the thread of the first move that isn't made, where so many are
abbrev pub stopped_thread : List Move → ℕ → Option ℕ
stopped_thread moves moved = option_map (λ move. move.thread) (slice_get moves moved)
