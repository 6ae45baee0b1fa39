-- What each status says of the words, of the input and of what was written.
use Rattle.std.specs.Prelude.{◌≡◌, ℕ, ◌⊎◌, List, codes}
use Rattle.civl_verdicts.specs.reports.Lines.{line}
use Rattle.civl_frontend.specs.Streams.{ReadState, ReadsPast, ReadsText, IsReported}
use Rattle.civl_frontend.specs.Texts.{limit}
use Rattle.civl_frontend.specs.Call.{Call}
use Rattle.civl_frontend.specs.Report.{bytes_of}
use Rattle.civl_frontend.specs.Told.{WantsMemory, Fails as FailsOf}
use Rattle.civl_frontend.specs.declared.judged.Judged.{Judged}
use Rattle.civl_frontend.specs.declared.status.Status.{Status}
use Rattle.civl_expected.specs.declared.kind.TextKind.{TextKind}
use Rattle.civl_explain_command.specs.declared.manner.Manner.{Manner}
use Rattle.civl_explain_words.specs.Words.{AreWordsOf}
use Rattle.civl_explain_words.specs.declared.words.Request.{Request}
use Rattle.civl_explain_command.specs.Tasks.{AskForSome, manner_of, kind_of}
use Rattle.civl_explain_command.specs.Outcome.{Outcome, TooLong, FindsBy, status_of}
use Rattle.civl_explain_command.specs.Told.{IsTold}

abbrev pub usage_text : List ℕ
usage_text = line (codes "usage: civl_explain check|conditions|run|prove [--lines] [--assumed]")

-- the status and the report tell an outcome of which this is so
pub record Tells (kind : TextKind) (manner : Manner) (input : List ℕ) (says : Outcome → Type 0) (status : Status) (report : List ℕ) : Type 0 where
  pub outcome : Outcome
  pub says_so : says outcome
  pub status_is : status ≡ status_of outcome
  pub is_told : IsTold kind manner input outcome report

-- the same of what is judged, or memory is wanting
abbrev pub IsJudged : TextKind → Manner → List ℕ → (Outcome → Type 0) → Judged → Type 0
IsJudged kind manner input says judged =
    Tells kind manner input says judged.status (bytes_of judged.report) ⊎ WantsMemory judged.status (bytes_of judged.report)

-- the whole input was read, which is these bytes, and that is found of it; or more than it may have was read
pub data Reads (request : Request) (before after : ReadState) : List ℕ → Outcome → Type 0 where
  ReadsLong : (input : List ℕ) → ReadsPast limit before after → Reads request before after input (TooLong limit)
  ReadsWhole : (input : List ℕ) (outcome : Outcome) → ReadsText before after input → FindsBy request.command input outcome
      → Reads request before after input outcome

-- the words ask for something, and the status and the report tell an outcome for which the input calls
pub record JudgesInput (words : List (List ℕ)) (before after : ReadState) (status : Status) (report : List ℕ) : Type 0 where
  pub request : Request
  pub words_are : AreWordsOf request words
  pub input : List ℕ
  pub outcome : Outcome
  pub reads : Reads request before after input outcome
  pub status_is : status ≡ status_of outcome
  pub is_told : IsTold (kind_of request.command) (manner_of request) input outcome report

-- there is no such outcome, since the source failed, the words ask for nothing, or memory is wanting, at the words already where they
-- ask for nothing
abbrev pub Fails : List (List ℕ) → ReadState → ReadState → Status → List ℕ → Type 0
Fails words before after status report =
    FailsOf (AskForSome words) (AskForSome words) (AskForSome words ⊎ (after ≡ before)) usage_text before after status report

-- what the words and the input call for: a status, and the report that belongs to it
abbrev pub Judges : List (List ℕ) → ReadState → ReadState → Status → List ℕ → Type 0
Judges words before after status report = JudgesInput words before after status report ⊎ Fails words before after status report

-- the report of the status was written whole; or the status is WriteFault, and the report of another was cut short
abbrev pub IsExplained : Call → Type 0
IsExplained call =
    IsReported (Judges call.words call.source call.source_after) call.sink call.sink_after call.status
