-- Part of the claim: docs/CLAIM.md.
-- Failing: a thread stands before an action call whose gate is false, or before an assert that is false.
use Rattle.std.specs.Prelude.{ℕ, ◌≡◌, Bool, true, false, not, List, Option, IsTrue, All}
use Rattle.std.specs.List.{list_any, position}
use Rattle.civl_bits.specs.Value.{IsValue}
use Rattle.civl_bits.specs.declared.value.Value.{Value}
use Rattle.civl_firing.specs.declared.store.Store.{Store}
use Rattle.civl_meaning.specs.declared.config.Move.{Move}
use Rattle.civl_meaning.specs.declared.config.Plain.{Plain}
use Rattle.civl_meaning.specs.declared.config.Running.{Running}
use Rattle.civl_meaning.specs.declared.config.Config.{Config}
use Rattle.civl_meaning.specs.declared.config.Stepped.TheVariants as answer
use Rattle.civl_meaning.specs.declared.config.Change.{Change}
use Rattle.civl_meaning.specs.declared.config.Change.TheVariants.{Stays, Goes, Acts, Enters, Leaves, Spawns}
use Rattle.civl_firing.specs.Fired.{gate_holds}
use Rattle.civl_meaning.specs.Change.{Doing, Fails, Calls, doing, change_of}
use Rattle.civl_meaning.specs.Step.{start}
use Rattle.civl_meaning.specs.Run.{RunsTo}

-- it is before an assert that is false, or before an action call whose gate is false
abbrev pub fails_at : Plain → Store → Doing → Bool
fails_at plain store Fails = true
fails_at plain store (Calls names locals results next action args) = not (gate_holds plain.program.globals store action args)
fails_at plain store _ = false

-- the thread stands before such a statement
abbrev pub thread_fails : Plain → Store → Running → Bool
thread_fails plain store thread = fails_at plain store (doing plain thread)

-- some thread does
abbrev pub is_failing : Plain → Config → Bool
is_failing plain config = list_any (thread_fails plain config.store) config.threads

-- the first thread that does
abbrev pub failing_thread : Plain → Config → Option ℕ
failing_thread plain config = position (thread_fails plain config.store) config.threads

-- a move's choices are values
abbrev pub IsMove : Move → Type 0
IsMove move = All IsValue move.choices

-- some list of moves runs from the program's start in this store to a failing configuration
abbrev pub CanFail : Plain → Store → Type 0
CanFail plain store = (moves : List Move) × (end : Config) × All IsMove moves × RunsTo plain moves (start plain store) end × IsTrue (is_failing plain end)

-- a change that is the answer Failing
abbrev pub answers_failing : Change → Bool
answers_failing (Stays answer.Failing) = true
answers_failing (Stays answer.Moved) = false
answers_failing (Stays answer.Blocked) = false
answers_failing (Stays answer.NoThread) = false
answers_failing (Stays answer.Ended) = false
answers_failing (Stays answer.BadChoices) = false
answers_failing (Goes locals place) = false
answers_failing (Acts store locals place) = false
answers_failing (Enters frame place) = false
answers_failing (Leaves frame) = false
answers_failing (Spawns thread place) = false

-- a thread fails exactly where its step answers Failing, whatever the choices
abbrev pub FailingIsAnswered : Type 0
FailingIsAnswered = (plain : Plain) (store : Store) (chosen : List Value) (thread : Running) → answers_failing (change_of plain store chosen thread) ≡ thread_fails plain store thread
