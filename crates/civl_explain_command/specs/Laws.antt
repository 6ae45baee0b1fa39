-- What follows from the definitions: what is found is what `civl` finds, and `civl`'s report stands first; and a story tells what is lost
-- where values violate a condition, and only there.
use Rattle.std.specs.Prelude.{◌≡◌, ℕ, ⊤, List, ◌++◌}
use Rattle.civl_bits.specs.declared.value.Value.{Value}
use Rattle.civl_tree.specs.declared.program.Program.{Program}
use Rattle.civl_tree.specs.declared.script.Script.{Script}
use Rattle.civl_conditions.specs.declared.condition.Condition.{Condition}
use Rattle.civl_conditions.specs.Violated.{violated}
use Rattle.civl_lines.specs.Losing.{tell_loss}
use Rattle.civl_firing.specs.declared.store.Store.{Store}
use Rattle.civl_meaning.specs.declared.config.Move.{Move}
use Rattle.civl_meaning.specs.declared.config.Plain.{Plain}
use Rattle.civl_expected.specs.declared.kind.TextKind.{TextKind}
use Rattle.civl_explain_command.specs.declared.manner.Manner.{Manner}
use Rattle.civl_explain_words.specs.declared.words.Command.{Command}
use Rattle.civl_command.specs.Outcome.{Outcome as Civl}
use Rattle.civl_explain_command.specs.Outcome.{Outcome, Ran, CallsFor, CivlCallsFor, of_civl, report_of}
use Rattle.civl_explain_command.specs.Stories.{condition_story}
use Rattle.civl_explain_command.specs.Told.{IsTold}

-- an input that calls for an outcome calls, under the same command of `civl`, for what `civl` finds there
abbrev pub FindsAsCivl : Type 0
FindsAsCivl =
    (command : Command) (input : List ℕ) (outcome : Outcome) →
    CallsFor command input outcome → CivlCallsFor command input (of_civl outcome)

-- and what `civl` finds there is what is found here, of some outcome for which the input calls
abbrev pub FindsAllOfCivl : Type 0
FindsAllOfCivl =
    (command : Command) (input : List ℕ) (found : Civl) →
    CivlCallsFor command input found → (outcome : Outcome) × CallsFor command input outcome × (of_civl outcome ≡ found)

-- not a run, whose moves stand before the report
abbrev pub StandsBehind : Outcome → Type 0
StandsBehind (Ran script plain store moves) = ⊥
StandsBehind _ = ⊤

-- the report begins with that of `civl`
abbrev pub CivlReportsFirst : Type 0
CivlReportsFirst =
    (kind : TextKind) (manner : Manner) (input : List ℕ) (outcome : Outcome) (report : List ℕ) →
    StandsBehind outcome → IsTold kind manner input outcome report →
    (story : List ℕ) × (report ≡ report_of outcome ++ story)

-- that of a run ends with it
abbrev pub CivlReportsLast : Type 0
CivlReportsLast =
    (kind : TextKind) (manner : Manner) (input : List ℕ) (script : Script) (plain : Plain) (store : Store) (moves : List Move) (report : List ℕ) →
    IsTold kind manner input (Ran script plain store moves) report →
    (story : List ℕ) × (report ≡ story ++ report_of (Ran script plain store moves))

-- the story of a condition at values says where something is lost exactly where they violate it
abbrev pub StoriesTell : Type 0
StoriesTell =
    (program : Program) (condition : Condition) (values : List Value) →
    tell_loss (condition_story program condition values) ≡ violated program condition values
