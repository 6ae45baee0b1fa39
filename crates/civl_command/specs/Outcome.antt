-- What the bytes of an input call for: the status and the report that they deserve.
use Rattle.std.specs.Prelude.{◌≡◌, ℕ, ◌≤◌, List, ◌++◌, length, Result, Option, Some}
use Rattle.civl_tree.specs.Raised.{raised}
use Rattle.civl_tree.specs.SpellingProgram.{spell_program}
use Rattle.civl_tree.specs.SpellingText.{canonical_text}
use Rattle.civl_tree.specs.declared.program.Program.{Program}
use Rattle.civl_tree.specs.declared.refusal.Refusal.{Refusal}
use Rattle.civl_tree.specs.declared.script.Script.{Script}
use Rattle.civl_meaning.specs.declared.config.Plain.{Plain}
use Rattle.civl_firing.specs.declared.store.Store.{Store}
use Rattle.civl_meaning.specs.declared.config.Move.{Move}
use Rattle.civl_meaning.specs.Layers.{lowest, topmost}
use Rattle.civl_script.specs.replays.Trace.{trace_of}
use Rattle.civl_script.specs.declared.replays.trace.Trace.{Trace}
use Rattle.civl_script.specs.Schedules.{IsSchedule}
use Rattle.civl_script.specs.declared.schedule.Schedule.TheVariants.{Fits, Wrong}
use Rattle.civl_conditions.specs.declared.condition.Condition.{Condition}
use Rattle.civl_conditions.specs.Weights.{heavy}
use Rattle.civl_verdicts.specs.declared.verdict.Verdict.{Verdict}
use Rattle.civl_verdicts.specs.declared.survey.Survey.{Survey}
use Rattle.civl_verdicts.specs.declared.survey.Survey.TheVariants as survey
use Rattle.civl_verdicts.specs.Surveys.{IsSurvey}
use Rattle.civl_verdicts.specs.Verdicts.{IsVerdict}
use Rattle.civl_verdicts.specs.reports.Findings.{heavy_text, survey_text}
use Rattle.civl_verdicts.specs.verdict_reports.Verdicts.{verdict_text}
use Rattle.civl_outlines.specs.declared.outline.Outline.{Outline}
use Rattle.civl_prove.specs.declared.proved.Proved.{Proved}
use Rattle.civl_prove.specs.declared.proved.Proved.TheVariants as proved
use Rattle.civl_prove.specs.declared.outline_reports.proving.Proving.{Proving}
use Rattle.civl_prove.specs.declared.outline_reports.proving.Proving.TheVariants as proving
use Rattle.civl_prove.specs.outline_reports.Proving.{IsProving}
use Rattle.civl_prove.specs.outline_reports.Reports.{proving_text}
use Rattle.civl_certify.specs.declared.certified.Certified.TheVariants as certified
use Rattle.civl_certify.specs.declared.proof_reports.making.Making.{Making}
use Rattle.civl_certify.specs.declared.proof_reports.making.Making.TheVariants as making
use Rattle.civl_certify.specs.declared.proof_reports.replaying.Replaying.{Replaying}
use Rattle.civl_certify.specs.declared.proof_reports.replaying.Replaying.TheVariants as replaying
use Rattle.civl_certify.specs.proof_reports.Making.{IsMaking}
use Rattle.civl_certify.specs.proof_reports.Replaying.{IsReplaying}
use Rattle.civl_certify.specs.proof_reports.Reports.{making_text, replaying_text}
use Rattle.civl_words.specs.Words.{usual_budget}
use Rattle.civl_trial.specs.Trial.{trial}
use Rattle.civl_frontend.specs.Report.{too_long_text, fault_text, refusal_text, misfit_text}
use Rattle.civl_frontend.specs.Rules.{static_refusal, IsLawful, IsTaken}
use Rattle.civl_frontend.specs.Status.{verdict_status}
use Rattle.civl_frontend.specs.Texts.{IsReading, IsScriptReading, IsOutlineReading, limit}
use Rattle.civl_frontend.specs.Told.{Telling, OfRead as OfReadOf, Finds as FindsOf, CallsFor as CallsForOf}
use Rattle.civl_frontend.specs.declared.reader.Fault.{Fault}
use Rattle.civl_frontend.specs.declared.status.Status.{Status}
use Rattle.civl_frontend.specs.declared.status.Status.TheVariants.{Done, Rejected, Undecided, Refused}
use Rattle.civl_command.specs.Report.{run_text, trial_line}
use Rattle.civl_command.specs.declared.task.Task.{Task}
use Rattle.civl_command.specs.declared.task.Task.TheVariants.{Check, Conditions, Fmt, RunLow, RunTop, Prove, Make, Replay}

-- the most bytes that a certificate may have
abbrev pub certificate_limit : ℕ
certificate_limit = 67108864

-- the most bytes that the input of a task may have
abbrev pub limit_of : Task → ℕ
limit_of Replay = certificate_limit
limit_of _ = limit

-- what an input calls for: it is longer than it may be, which is so many bytes; it is no program, script or outline, with the first
-- fault; its program breaks a static rule, with the first; a formula of its program weighs too much, with the first; under a budget its
-- program has this verdict, or this is found of its program's conditions; its program is printed; its store or its moves don't fit, with
-- the number of the first that doesn't; or its schedule gives this trace. Or this is found of it as an outline, under a budget; of its
-- program and the condition with a number, under a budget; or of it as a certificate
pub data Outcome : Type 0 where
  TooLong : ℕ → Outcome
  Unread : Fault → Outcome
  Broken : Refusal → Outcome
  Heavy : Program → Option Condition → Outcome
  Judged : Program → ℕ → Verdict → Outcome
  Surveyed : Program → ℕ → Survey → Outcome
  Printed : Program → Outcome
  Misfit : ℕ → Outcome
  Ran : Program → Trace → Outcome
  Proven : Outline → ℕ → Proving → Outcome
  Asked : Program → ℕ → ℕ → Making → Outcome
  Replayed : Replaying → Outcome

-- ---- the status and the report

-- the text in which `fmt` writes a program
abbrev pub printed_text : Program → List ℕ
printed_text program = canonical_text (spell_program (raised program))

abbrev pub survey_status : Survey → Status
survey_status survey.NoInitial = Refused
survey_status (survey.Findings initial findings) = Done

abbrev pub proved_status : Proved → Status
proved_status (proved.All goals) = Done
proved_status (proved.Fails goal values) = Rejected
proved_status (proved.Undecided goal log) = Undecided

abbrev pub proving_status : Proving → Status
proving_status (proving.Note number) = Refused
proving_status (proving.Roots item statement) = Refused
proving_status (proving.Heavy first) = Refused
proving_status (proving.HeavyGoal goal) = Refused
proving_status (proving.Judged verdict) = verdict_status verdict
proving_status (proving.Decided count found) = proved_status found

abbrev pub making_status : Making → Status
making_status (making.Heavy first) = Refused
making_status (making.Beyond count) = Refused
making_status (making.Shown condition certified.NoInitial) = Refused
making_status (making.Shown condition (certified.Answer initial shown)) = Done

abbrev pub replaying_status : Replaying → Status
replaying_status (replaying.Unread place) = Refused
replaying_status (replaying.Read found) = Done

-- the status that an outcome has
abbrev pub status_of : Outcome → Status
status_of (TooLong most) = Refused
status_of (Unread fault) = Refused
status_of (Broken refusal) = Refused
status_of (Heavy program first) = Refused
status_of (Judged program budget verdict) = verdict_status verdict
status_of (Surveyed program budget survey) = survey_status survey
status_of (Printed program) = Done
status_of (Misfit number) = Refused
status_of (Ran program trace) = Done
status_of (Proven outline budget found) = proving_status found
status_of (Asked program at budget making) = making_status making
status_of (Replayed replaying) = replaying_status replaying

-- the report that an outcome has
abbrev pub report_of : Outcome → List ℕ
report_of (TooLong most) = too_long_text most
report_of (Unread fault) = fault_text fault
report_of (Broken refusal) = refusal_text refusal
report_of (Heavy program first) = heavy_text program first
report_of (Judged program budget verdict) = verdict_text program budget verdict
report_of (Surveyed program budget survey) = survey_text program budget survey
report_of (Printed program) = printed_text program
report_of (Misfit number) = misfit_text number
report_of (Ran program trace) = run_text program trace
report_of (Proven outline budget found) = proving_text outline.program budget found
report_of (Asked program at budget making) = making_text program budget at making
report_of (Replayed replaying) = replaying_text replaying

-- how it tells them
abbrev pub telling : Telling Outcome
telling = record { status = status_of; report = report_of; too_long = TooLong; unread = Unread }

-- ---- what is found of what is read

-- of a program that breaks a static rule
abbrev pub Breaks : Program → Outcome → Type 0
Breaks program (Broken refusal) = static_refusal program ≡ Some refusal
Breaks program _ = ⊥

-- `check`, of a program, under a budget
abbrev pub Checks : ℕ → Program → Outcome → Type 0
Checks budget program (Broken refusal) = static_refusal program ≡ Some refusal
Checks budget program (Heavy weighed first) = (weighed ≡ program) × IsLawful program × (heavy program ≡ Some first)
Checks budget program (Judged judged told verdict) = (judged ≡ program) × (told ≡ budget) × IsTaken program × IsVerdict program budget verdict
Checks budget program _ = ⊥

-- `conditions`, of a program, under a budget
abbrev pub Surveys : ℕ → Program → Outcome → Type 0
Surveys budget program (Broken refusal) = static_refusal program ≡ Some refusal
Surveys budget program (Heavy weighed first) = (weighed ≡ program) × IsLawful program × (heavy program ≡ Some first)
Surveys budget program (Surveyed surveyed told survey) = (surveyed ≡ program) × (told ≡ budget) × IsTaken program × IsSurvey program budget survey
Surveys budget program _ = ⊥

-- `prove`, of an outline, under a budget
abbrev pub Proves : ℕ → Outline → Outcome → Type 0
Proves budget outline (Broken refusal) = static_refusal outline.program ≡ Some refusal
Proves budget outline (Proven proven told found) = (proven ≡ outline) × (told ≡ budget) × IsLawful outline.program × IsProving outline.program outline budget found
Proves budget outline _ = ⊥

-- `proof make`, of a program and the number of a condition, under a budget
abbrev pub Asks : ℕ → ℕ → Program → Outcome → Type 0
Asks at budget program (Broken refusal) = static_refusal program ≡ Some refusal
Asks at budget program (Asked asked place told making) = (asked ≡ program) × (place ≡ at) × (told ≡ budget) × IsLawful program × IsMaking program budget at making
Asks at budget program _ = ⊥

-- `fmt`, of a program
abbrev pub Prints : Program → Outcome → Type 0
Prints program outcome = outcome ≡ Printed program

-- the moves of a schedule that fits give this trace
pub record RunsBy (plain : Plain) (script : Script) (trace : Trace) : Type 0 where
  pub store : Store
  pub moves : List Move
  pub fits : IsSchedule script.program.globals script.store script.moves (Fits store moves)
  pub trace_is : trace ≡ trace_of plain store moves

-- `run`, of a script, on this plain program of it
abbrev pub Runs : (Program → Plain) → Script → Outcome → Type 0
Runs plain_of script (Broken refusal) = static_refusal script.program ≡ Some refusal
Runs plain_of script (Misfit number) = IsLawful script.program × IsSchedule script.program.globals script.store script.moves (Wrong number)
Runs plain_of script (Ran program trace) = (program ≡ script.program) × IsLawful script.program × RunsBy (plain_of script.program) script trace
Runs plain_of script _ = ⊥

-- of what is read: as this says of the program, script or outline, or its first fault
abbrev pub OfRead : {A : Type 0} → (A → Outcome → Type 0) → Result A Fault → Outcome → Type 0
OfRead Says reading outcome = OfReadOf telling Says reading outcome

-- ---- what an input calls for

-- it is no longer than it may be, it is read as this, and that is found of it
abbrev pub Finds : {A : Type 0} → (List ℕ → Result A Fault → Type 0) → (A → Outcome → Type 0) → List ℕ → Outcome → Type 0
Finds IsRead Says input outcome = FindsOf telling IsRead Says input outcome

-- `proof replay`, of an input as a certificate
pub record FindsReplayed (input : List ℕ) (outcome : Outcome) : Type 0 where
  pub short : length input ≤ certificate_limit
  pub replaying_ : Replaying
  pub is : IsReplaying input replaying_
  pub outcome_is : outcome ≡ Replayed replaying_

-- by a task, of an input that may be read
abbrev pub FindsBy : Task → List ℕ → Outcome → Type 0
FindsBy (Check budget) input outcome = Finds IsReading (Checks budget) input outcome
FindsBy (Conditions budget) input outcome = Finds IsReading (Surveys budget) input outcome
FindsBy Fmt input outcome = Finds IsReading Prints input outcome
FindsBy RunLow input outcome = Finds IsScriptReading (Runs lowest) input outcome
FindsBy RunTop input outcome = Finds IsScriptReading (Runs topmost) input outcome
FindsBy (Prove budget) input outcome = Finds IsOutlineReading (Proves budget) input outcome
FindsBy (Make at budget) input outcome = Finds IsReading (Asks at budget) input outcome
FindsBy Replay input outcome = FindsReplayed input outcome

-- for a task the input calls for this outcome
abbrev pub CallsFor : Task → List ℕ → Outcome → Type 0
CallsFor task input outcome = CallsForOf telling (limit_of task) (FindsBy task) input outcome

-- ---- trials

-- the text of the trial program of so many copies
abbrev pub trial_text : ℕ → List ℕ
trial_text number = printed_text (trial number)

-- the text of a trial calls for this outcome, as an input of `check` with the usual budget does
abbrev pub TrialCallsFor : ℕ → Outcome → Type 0
TrialCallsFor number outcome = CallsFor (Check usual_budget) (trial_text number) outcome

-- the report that an outcome has there
abbrev pub trial_report : ℕ → Outcome → List ℕ
trial_report number outcome = trial_line number ++ report_of outcome
