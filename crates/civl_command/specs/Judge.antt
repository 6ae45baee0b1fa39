-- What each status says of the words, of the input and of what was written.
use Rattle.std.specs.Prelude.{◌≡◌, ℕ, ◌⊎◌, List, codes}
use Rattle.civl_verdicts.specs.reports.Lines.{line}
use Rattle.civl_frontend.specs.Report.{bytes_of}
use Rattle.civl_frontend.specs.Streams.{ReadState, IsReported}
use Rattle.civl_frontend.specs.Call.{Call}
use Rattle.civl_frontend.specs.Told.{WantsMemory, IsJudged as IsJudgedOf, ReadsAll as ReadsAllOf, Reads as ReadsOf, Fails as FailsOf}
use Rattle.civl_frontend.specs.declared.judged.Judged.{Judged}
use Rattle.civl_frontend.specs.declared.status.Status.{Status}
use Rattle.civl_command.specs.Tasks.{AskFor, AskForSome, AskForTrial, AreTaken}
use Rattle.civl_command.specs.Outcome.{Outcome, FindsBy, TrialCallsFor, status_of, report_of, telling, trial_report, limit_of}
use Rattle.civl_command.specs.declared.task.Task.{Task}

abbrev pub usage_text : List ℕ
usage_text = line (codes "usage: civl check|conditions|fmt|run|trial|prove|proof")

-- the whole input was read, and this is found of it
abbrev pub ReadsAll : Task → ReadState → ReadState → Outcome → Type 0
ReadsAll task before after outcome = ReadsAllOf (FindsBy task) before after outcome

-- what was read calls for this outcome: more than the limit, or the whole input
abbrev pub Reads : Task → ReadState → ReadState → Outcome → Type 0
Reads task before after outcome = ReadsOf telling (limit_of task) (FindsBy task) before after outcome

-- the status and the report are those of an outcome of which this is so, or memory is wanting
abbrev pub IsJudged : (Outcome → Type 0) → Judged → Type 0
IsJudged says judged = IsJudgedOf telling says judged

-- the status and the report are those of an outcome for which the text of a trial calls
pub record TrialAnswers (number : ℕ) (status : Status) (report : List ℕ) : Type 0 where
  pub outcome : Outcome
  pub calls : TrialCallsFor number outcome
  pub status_is : status ≡ status_of outcome
  pub report_is : report ≡ trial_report number outcome

-- the same, or memory is wanting
abbrev pub IsTried : ℕ → Judged → Type 0
IsTried number judged = TrialAnswers number judged.status (bytes_of judged.report) ⊎ WantsMemory judged.status (bytes_of judged.report)

-- the words ask for a task, and the status and the report are those of an outcome for which the input calls
pub record JudgesInput (words : List (List ℕ)) (before after : ReadState) (status : Status) (report : List ℕ) : Type 0 where
  pub task : Task
  pub words_are : AskFor task words
  pub outcome : Outcome
  pub reads : Reads task before after outcome
  pub status_is : status ≡ status_of outcome
  pub report_is : report ≡ report_of outcome

-- the words ask for a trial, nothing is read, and the status and the report are those of an outcome for which its text calls
pub record JudgesTrial (words : List (List ℕ)) (before after : ReadState) (status : Status) (report : List ℕ) : Type 0 where
  pub number : ℕ
  pub words_are : AskForTrial number words
  pub unread : after ≡ before
  pub answers : TrialAnswers number status report

-- there is no such outcome, since the source failed, the words are no command's, or memory is wanting, at the words already where
-- they ask for no task
abbrev pub Fails : List (List ℕ) → ReadState → ReadState → Status → List ℕ → Type 0
Fails words before after status report =
    FailsOf (AskForSome words) (AreTaken words) (AskForSome words ⊎ (after ≡ before)) usage_text before after status report

-- what the words and the input call for: a status, and the report that belongs to it
abbrev pub Judges : List (List ℕ) → ReadState → ReadState → Status → List ℕ → Type 0
Judges words before after status report =
    JudgesInput words before after status report ⊎ (JudgesTrial words before after status report ⊎ Fails words before after status report)

-- the report of the status was written whole; or the status is WriteFault, and the report of another was cut short
abbrev pub Explains : Call → Type 0
Explains call =
    IsReported (Judges call.words call.source call.source_after) call.sink call.sink_after call.status
