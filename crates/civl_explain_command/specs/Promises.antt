-- What `explain_command` promises.
use Rattle.std.specs.Prelude.{◌≡◌, ℕ, ◌⊎◌, List, Some}
use Rattle.civl_outside.specs.Count.{Stayed}
use Rattle.civl_frontend.specs.Call.{Call}
use Rattle.civl_frontend.specs.Streams.{Writes}
use Rattle.civl_frontend.specs.declared.status.Status.TheVariants.{Memory}
use Rattle.civl_explain_words.specs.Words.{AreWordsOf}
use Rattle.civl_explain_words.specs.declared.words.Request.{Request}
use Rattle.civl_explain_command.specs.Tasks.{manner_of, kind_of}
use Rattle.civl_explain_command.specs.Outcome.{Outcome, CallsFor, CivlCallsFor, of_civl, status_of}
use Rattle.civl_explain_command.specs.Told.{IsTold}
use Rattle.civl_explain_command.specs.Judge.{IsExplained}

-- A request of this input calls for an outcome; under the same command of `civl` the input calls for what `civl` finds there. The status is that of
-- the outcome, and what was written grew by a report that tells it.
pub record Answers (call : Call) (request : Request) (input : List ℕ) : Type 0 where
  pub outcome : Outcome
  pub calls : CallsFor request.command input outcome
  pub as_civl : CivlCallsFor request.command input (of_civl outcome)
  pub status_is : call.status ≡ status_of outcome
  pub report : List ℕ
  pub is_told : IsTold (kind_of request.command) (manner_of request) input outcome report
  pub written : Writes call.sink call.sink_after report

-- What is so of each call, whatever its words are, its source and its sink.
pub record Promises (call : Call) : Type 0 where
  -- What each status says of the words, of what was read and of what was written.
  pub explains : IsExplained call
  -- Where the words ask for something, the source tells its bytes and nothing failed or stalled: the input is answered, but for want of
  -- memory.
  pub complete : (request : Request) (input : List ℕ) → AreWordsOf request call.words → call.source.left ≡ Some input →
      Stayed call.source.faults call.source_after.faults →
      Stayed call.sink.faults call.sink_after.faults →
      Stayed call.sink.stalls call.sink_after.stalls →
      Answers call request input ⊎ (call.status ≡ Memory)
