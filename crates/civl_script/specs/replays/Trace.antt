-- What a schedule gives: the first moves up to one that isn't made, its answer, and what is read off the configuration
-- to which they lead. (Small-step interleaving.)
use Rattle.std.specs.Prelude.{ℕ, ◌≡◌, ◌≢◌, ◌≤◌, ◌↔◌, List, length, take, Option, None, Some, slice_get}
use Rattle.civl_firing.specs.declared.store.Store.{Store}
use Rattle.civl_meaning.specs.declared.config.Move.{Move}
use Rattle.civl_meaning.specs.declared.config.Plain.{Plain}
use Rattle.civl_meaning.specs.declared.config.Config.{Config}
use Rattle.civl_meaning.specs.declared.config.Stepped.{Stepped}
use Rattle.civl_meaning.specs.declared.config.Stepped.TheVariants.{Moved}
use Rattle.civl_meaning.specs.Step.{start, step_of}
use Rattle.civl_meaning.specs.Run.{RunsTo, run_of}
use Rattle.civl_meaning.specs.Failing.{failing_thread}
use Rattle.civl_script.specs.declared.replays.trace.Trace.{Trace}

-- read off a run: how many moves were made, the answer of the next, and the last configuration
abbrev pub read_off : Plain → ℕ × Option Stepped × Config → Trace
read_off plain run = record { moved = run.0; stopped = run.1; failing = failing_thread plain run.2; end = run.2.store }

-- what the moves give from the program's start in a store
abbrev pub trace_of : Plain → Store → List Move → Trace
trace_of plain store moves = read_off plain (run_of plain moves 0 (start plain store))

-- why a run ends at this configuration: no move is left; or the next one isn't made there, and has this answer
abbrev pub EndsBy : Plain → Config → Option Move → Option Stepped → Type 0
EndsBy plain end None stopped = stopped ≡ None
EndsBy plain end (Some move) stopped = (stopped ≡ Some (step_of plain end move).0) × ((step_of plain end move).0 ≢ Moved)

-- the same without going over the moves: the first of them run from the start to a configuration, at which the run ends
pub record IsTrace (plain : Plain) (store : Store) (moves : List Move) (trace : Trace) : Type 0 where
  pub last : Config
  pub within : trace.moved ≤ length moves
  pub made : RunsTo plain (take trace.moved moves) (start plain store) last
  pub ends : EndsBy plain last (slice_get moves trace.moved) trace.stopped
  pub fails : trace.failing ≡ failing_thread plain last
  pub store_there : trace.end ≡ last.store

-- there is one such trace
abbrev pub TracesAreTold : Type 0
TracesAreTold = (plain : Plain) (store : Store) (moves : List Move) (trace : Trace) → IsTrace plain store moves trace ↔ (trace ≡ trace_of plain store moves)
