-- What each status says of the words, of the input and of what was written.
use Rattle.std.specs.Prelude.{◌≡◌, ℕ, ◌⊎◌, List}
use Rattle.civl_frontend.specs.Streams.{ReadState, IsReported}
use Rattle.civl_frontend.specs.Call.{Call}
use Rattle.civl_frontend.specs.Texts.{limit}
use Rattle.civl_frontend.specs.Told.{Reads as ReadsOf, Fails as FailsOf}
use Rattle.civl_frontend.specs.declared.status.Status.{Status}
use Rattle.civl_lift_command.specs.Words.{AskToLift, AskToLiftSome}
use Rattle.civl_lift_command.specs.Outcome.{Outcome, FindsBy, status_of, report_of, telling}
use Rattle.civl_lift_command.specs.Report.{usage_text}

-- what was read calls for this outcome: more than the limit, or the whole input
abbrev pub Reads : ℕ → ReadState → ReadState → Outcome → Type 0
Reads budget before after outcome = ReadsOf telling limit (FindsBy budget) before after outcome

-- the words ask for lifting, and the status and the report are those of an outcome for which the input calls
pub record JudgesInput (words : List (List ℕ)) (before after : ReadState) (status : Status) (report : List ℕ) : Type 0 where
  pub budget : ℕ
  pub words_are : AskToLift budget words
  pub outcome : Outcome
  pub reads : Reads budget before after outcome
  pub status_is : status ≡ status_of outcome
  pub report_is : report ≡ report_of outcome

-- there is no such outcome, since the source failed, or memory is wanting, where the words ask for lifting; or the words don't
abbrev pub Fails : List (List ℕ) → ReadState → ReadState → Status → List ℕ → Type 0
Fails words before after status report = FailsOf (AskToLiftSome words) (AskToLiftSome words) (AskToLiftSome words) usage_text before after status report

-- what the words and the input call for: a status, and the report that belongs to it
abbrev pub Judges : List (List ℕ) → ReadState → ReadState → Status → List ℕ → Type 0
Judges words before after status report = JudgesInput words before after status report ⊎ Fails words before after status report

-- the report of the status was written whole; or the status is WriteFault, and the report of another was cut short
abbrev pub Explains : Call → Type 0
Explains call =
    IsReported (Judges call.words call.source call.source_after) call.sink call.sink_after call.status
