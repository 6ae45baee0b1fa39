-- Type soundness of what is replayed (preservation and progress; Wright and Felleisen, "A Syntactic Approach to Type Soundness", 1994).
use Rattle.std.specs.Prelude.{ℕ, ◌≡◌, List, take, Some, slice_get}
use Rattle.civl_tree.specs.declared.script.Entry.{Entry}
use Rattle.civl_tree.specs.declared.script.Told.{Told}
use Rattle.civl_firing.specs.declared.store.Store.{Store}
use Rattle.civl_meaning.specs.declared.config.Move.{Move}
use Rattle.civl_meaning.specs.declared.config.Plain.{Plain}
use Rattle.civl_meaning.specs.declared.config.Config.{Config}
use Rattle.civl_meaning.specs.declared.config.Stepped.{Stepped}
use Rattle.civl_meaning.specs.Config.{IsPlain, IsOf}
use Rattle.civl_meaning.specs.Run.{RunsTo}
use Rattle.civl_meaning.specs.Step.{start}
use Rattle.civl_soundness.specs.Stepped.{Cause}
use Rattle.civl_script.specs.Schedules.{IsSchedule}
use Rattle.civl_script.specs.declared.schedule.Schedule.TheVariants.{Fits}
use Rattle.civl_script.specs.replays.Trace.{IsTrace}
use Rattle.civl_script.specs.declared.replays.trace.Trace.{Trace}

-- in a plain program that keeps the rules, each configuration to which the first moves of a schedule lead is one of the program
abbrev pub ReplaysStayInTheirProgram : Type 0
ReplaysStayInTheirProgram =
    (plain : Plain) (entries : List Entry) (tolds : List Told) (store : Store) (moves : List Move) (number : ℕ) (to : Config)
    → IsPlain plain → IsSchedule plain.program.globals entries tolds (Fits store moves) → RunsTo plain (take number moves) (start plain store) to → IsOf plain to

-- and where a replay stops before a move, the answer of this move has its cause there
abbrev pub StopsHaveCauses : Type 0
StopsHaveCauses =
    (plain : Plain) (entries : List Entry) (tolds : List Told) (store : Store) (moves : List Move) (trace : Trace) (is : IsTrace plain store moves trace) (move : Move) (why : Stepped)
    → IsPlain plain → IsSchedule plain.program.globals entries tolds (Fits store moves) → slice_get moves trace.moved ≡ Some move → trace.stopped ≡ Some why → Cause plain is.last move why
