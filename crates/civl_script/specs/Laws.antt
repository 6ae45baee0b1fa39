-- What follows from the definitions.
use Rattle.std.specs.Prelude.{ℕ, ◌≡◌, ◌+◌, ◌≤◌, List, length}
use Rattle.civl_bits.specs.declared.value.Value.{Value}
use Rattle.civl_tree.specs.declared.program.Global.{Global}
use Rattle.civl_tree.specs.declared.program.Program.{Program}
use Rattle.civl_tree.specs.declared.script.Entry.{Entry}
use Rattle.civl_tree.specs.declared.script.Script.{Script}
use Rattle.civl_tree.specs.declared.script.Told.{Told}
use Rattle.civl_tree.specs.Token.{Token}
use Rattle.civl_tree.specs.Numbering.{item_count}
use Rattle.civl_tree.specs.SpellingDomain.{IsSpelledBy, ScriptIsSpelledBy}
use Rattle.civl_lex.specs.Text.{HasTokens}
use Rattle.civl_tree.specs.Numbered.{IsNumbered}
use Rattle.civl_script.specs.Values.{IsValueOf}
use Rattle.civl_script.specs.Schedules.{IsSchedule}
use Rattle.civl_script.specs.declared.schedule.Schedule.{Schedule}

-- an entry writes at most one value
abbrev pub OneValue : Type 0
OneValue = (entry : Entry) (v w : Value) → IsValueOf entry v → IsValueOf entry w → v ≡ w

-- a script has one schedule at most
abbrev pub OneSchedule : Type 0
OneSchedule =
    (globals : List Global) (entries : List Entry) (tolds : List Told) (first second : Schedule) → IsSchedule globals entries tolds first → IsSchedule globals entries tolds second
    → first ≡ second

-- and it has one
abbrev pub SchedulesExist : Type 0
SchedulesExist = (globals : List Global) (entries : List Entry) (tolds : List Told) → (schedule : Schedule) × IsSchedule globals entries tolds schedule

-- the parts of a program that a text of at most a megabyte spells have numbers of 32 bits
abbrev pub TextsAreNumbered : Type 0
TextsAreNumbered =
    (bytes : List ℕ) (tokens : List Token) (program : Program) → HasTokens bytes tokens → IsSpelledBy tokens program → length bytes ≤ 1048576 → IsNumbered program

-- and so have those of the program of such a script
abbrev pub ScriptsAreNumbered : Type 0
ScriptsAreNumbered =
    (bytes : List ℕ) (tokens : List Token) (script : Script) → HasTokens bytes tokens → ScriptIsSpelledBy tokens script → length bytes ≤ 1048576
    → IsNumbered script.program

-- the items and the moves of a script are together at most as many as the bytes of its text
abbrev pub ScriptsAreCounted : Type 0
ScriptsAreCounted =
    (bytes : List ℕ) (tokens : List Token) (script : Script) → HasTokens bytes tokens → ScriptIsSpelledBy tokens script
    → item_count script.program + length script.moves ≤ length bytes
