-- What is found of an input: what `civl` finds of it, with what its stories need.
use Rattle.std.specs.Prelude.{◌≡◌, ℕ, ◌≤◌, ◌<◌, ◌⊎◌, ⊤, List, length, Result, Ok, Err, Option}
use Rattle.civl_tree.specs.declared.program.Program.{Program}
use Rattle.civl_tree.specs.declared.refusal.Refusal.{Refusal}
use Rattle.civl_tree.specs.declared.script.Script.{Script}
use Rattle.civl_firing.specs.declared.store.Store.{Store}
use Rattle.civl_meaning.specs.declared.config.Plain.{Plain}
use Rattle.civl_meaning.specs.declared.config.Move.{Move}
use Rattle.civl_meaning.specs.Layers.{lowest, topmost}
use Rattle.civl_script.specs.replays.Trace.{trace_of}
use Rattle.civl_script.specs.Schedules.{IsSchedule}
use Rattle.civl_script.specs.declared.schedule.Schedule.TheVariants.{Fits}
use Rattle.civl_conditions.specs.declared.condition.Condition.{Condition}
use Rattle.civl_verdicts.specs.declared.verdict.Verdict.{Verdict}
use Rattle.civl_verdicts.specs.declared.survey.Survey.{Survey}
use Rattle.civl_outlines.specs.declared.outline.Outline.{Outline}
use Rattle.civl_prove.specs.declared.outline_reports.proving.Proving.{Proving}
use Rattle.civl_frontend.specs.declared.reader.Fault.{Fault}
use Rattle.civl_frontend.specs.declared.status.Status.{Status}
use Rattle.civl_frontend.specs.Rules.{IsLawful}
use Rattle.civl_frontend.specs.Texts.{IsReading, IsScriptReading, IsOutlineReading, limit}
use Rattle.civl_command.specs.Outcome.{status_of as civl_status, report_of as civl_report, Checks, Surveys, Runs, Proves, Finds as CivlFinds}
use Rattle.civl_command.specs.Outcome.{Outcome as Civl, TooLong as CivlLong, Unread as CivlUnread, Broken as CivlBroken, Heavy as CivlHeavy}
use Rattle.civl_command.specs.Outcome.{Judged as CivlJudged, Surveyed as CivlSurveyed, Misfit as CivlMisfit, Ran as CivlRan, Proven as CivlProven}
use Rattle.civl_explain_words.specs.declared.words.Command.{Command}
use Rattle.civl_explain_words.specs.declared.words.Command.TheVariants.{Check, Conditions, RunLow, RunTop, Prove}

-- the input is longer than it may be; it spells nothing, with its first fault; its program breaks a static rule, with the first; a formula
-- weighs too much, with the first; its program has this verdict, or this is found of its conditions; its store or its moves don't fit, with
-- the script and the number of the first that doesn't; its moves run from its store in this plain program, with the script; or this is found
-- of it as an outline
pub data Outcome : Type 0 where
  TooLong : ℕ → Outcome
  Unread : Fault → Outcome
  Broken : Program → Refusal → Outcome
  Heavy : Program → Option Condition → Outcome
  Judged : Program → ℕ → Verdict → Outcome
  Surveyed : Program → ℕ → Survey → Outcome
  Misfit : Script → ℕ → Outcome
  Ran : Script → Plain → Store → List Move → Outcome
  Proven : Outline → ℕ → Proving → Outcome

-- what `civl` finds there
abbrev pub of_civl : Outcome → Civl
of_civl (TooLong most) = CivlLong most
of_civl (Unread fault) = CivlUnread fault
of_civl (Broken program refusal) = CivlBroken refusal
of_civl (Heavy program first) = CivlHeavy program first
of_civl (Judged program budget verdict) = CivlJudged program budget verdict
of_civl (Surveyed program budget survey) = CivlSurveyed program budget survey
of_civl (Misfit script number) = CivlMisfit number
of_civl (Ran script plain store moves) = CivlRan plain.program (trace_of plain store moves)
of_civl (Proven outline budget found) = CivlProven outline budget found

-- the status of an outcome, and what `civl` reports of it
abbrev pub status_of : Outcome → Status
status_of outcome = civl_status (of_civl outcome)

abbrev pub report_of : Outcome → List ℕ
report_of outcome = civl_report (of_civl outcome)

-- ---- what is found of what is read

-- the program that breaks a rule is the one that was read
abbrev pub IsOf : Program → Outcome → Type 0
IsOf program (Broken broken refusal) = broken ≡ program
IsOf program _ = ⊤

-- `check` and `conditions`
abbrev pub Explains : (Program → Civl → Type 0) → Program → Outcome → Type 0
Explains Says program outcome = IsOf program outcome × Says program (of_civl outcome)

-- `prove`
abbrev pub Outlines : ℕ → Outline → Outcome → Type 0
Outlines budget outline outcome = IsOf outline.program outcome × Proves budget outline (of_civl outcome)

-- `run`: the plain program is that of the script, and the store and the moves are the script's
abbrev pub Traces : (Program → Plain) → Script → Outcome → Type 0
Traces plain_of script (Ran told plain store moves) =
    (told ≡ script) × (plain ≡ plain_of script.program) × (plain.program ≡ script.program) × IsLawful script.program
    × IsSchedule script.program.globals script.store script.moves (Fits store moves)
Traces plain_of script (Misfit told number) = (told ≡ script) × Runs plain_of script (of_civl (Misfit told number))
Traces plain_of script outcome = IsOf script.program outcome × Runs plain_of script (of_civl outcome)

-- of what is read: as this says of the program, script or outline, or its first fault
abbrev pub OfRead : {A : Type 0} → (A → Outcome → Type 0) → Result A Fault → Outcome → Type 0
OfRead Says (Ok value) outcome = Says value outcome
OfRead Says (Err fault) outcome = outcome ≡ Unread fault

-- of an input: it is no longer than it may be, it is read as this, and that is found of it
pub record Finds {A : Type 0} (IsRead : List ℕ → Result A Fault → Type 0) (Says : A → Outcome → Type 0) (input : List ℕ) (outcome : Outcome) : Type 0 where
  pub short : length input ≤ limit
  pub reading : Result A Fault
  pub read : IsRead input reading
  pub says : OfRead Says reading outcome

-- by a command, of an input that may be read
abbrev pub FindsBy : Command → List ℕ → Outcome → Type 0
FindsBy (Check budget) input outcome = Finds IsReading (Explains (Checks budget)) input outcome
FindsBy (Conditions budget) input outcome = Finds IsReading (Explains (Surveys budget)) input outcome
FindsBy RunLow input outcome = Finds IsScriptReading (Traces lowest) input outcome
FindsBy RunTop input outcome = Finds IsScriptReading (Traces topmost) input outcome
FindsBy (Prove budget) input outcome = Finds IsOutlineReading (Outlines budget) input outcome

-- for a command the input calls for this outcome: it is longer than it may be, or that is found of it
abbrev pub CallsFor : Command → List ℕ → Outcome → Type 0
CallsFor command input outcome = ((outcome ≡ TooLong limit) × (limit < length input)) ⊎ FindsBy command input outcome

-- ---- what `civl` finds

-- under the command of `civl` with the same words, of an input that may be read
abbrev pub CivlFindsBy : Command → List ℕ → Civl → Type 0
CivlFindsBy (Check budget) input outcome = CivlFinds IsReading (Checks budget) input outcome
CivlFindsBy (Conditions budget) input outcome = CivlFinds IsReading (Surveys budget) input outcome
CivlFindsBy RunLow input outcome = CivlFinds IsScriptReading (Runs lowest) input outcome
CivlFindsBy RunTop input outcome = CivlFinds IsScriptReading (Runs topmost) input outcome
CivlFindsBy (Prove budget) input outcome = CivlFinds IsOutlineReading (Proves budget) input outcome

-- there the input calls for this
abbrev pub CivlCallsFor : Command → List ℕ → Civl → Type 0
CivlCallsFor command input outcome = ((outcome ≡ CivlLong limit) × (limit < length input)) ⊎ CivlFindsBy command input outcome
