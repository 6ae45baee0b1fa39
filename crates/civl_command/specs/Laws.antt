-- What follows from the definitions: for each task each input has one answer; and what a call promises, one by one.
use Rattle.std.specs.Prelude.{◌≡◌, ℕ, ◌⊎◌, List, ◌++◌, codes, Some}
use Rattle.civl_outside.specs.Count.{Stayed}
use Rattle.civl_meaning.specs.Layers.{lowest, topmost}
use Rattle.civl_words.specs.Words.{usual_budget}
use Rattle.civl_frontend.specs.Streams.{ReadState, WriteState, IsReported, Writes, ReadsAndWrites, IsAlone}
use Rattle.civl_frontend.specs.Call.{Call}
use Rattle.civl_frontend.specs.Told.{Carries}
use Rattle.civl_frontend.specs.declared.status.Status.{Status}
use Rattle.civl_frontend.specs.declared.status.Status.TheVariants.{Done, Rejected, Undecided, Refused, Memory}
use Rattle.civl_command.specs.declared.task.Task.{Task}
use Rattle.civl_command.specs.declared.task.Task.TheVariants.{Check, Conditions, Fmt, RunLow, RunTop, Prove, Make, Replay}
use Rattle.civl_command.specs.Tasks.{AskFor, AskForTrial}
use Rattle.civl_command.specs.Outcome.{Outcome, CallsFor, TrialCallsFor, status_of, telling, trial_text, trial_report}
use Rattle.civl_command.specs.Alike.{AreAlike}
use Rattle.civl_command.specs.Judge.{Judges}
use Rattle.civl_command.specs.Report.{trial_line}
use Rattle.civl_command.specs.Statuses.{AcceptsRightly, SurveysRightly, PrintsRightly, ReplaysRightly, IsSafeRightly, CertifiesRightly, RefutesRightly, RejectsChecking, RejectsProving, LeavesCheckingOpen, LeavesProvingOpen, AnswersAs, TrialAnswersAs}
use Rattle.civl_command.specs.Promises.{Promises}

-- for each task each list of numbers as the input calls for some outcome
abbrev pub EachInputIsAnswered : Type 0
EachInputIsAnswered = (task : Task) (input : List ℕ) → (outcome : Outcome) × CallsFor task input outcome

-- and all outcomes for which it calls are alike
abbrev pub EachInputIsAnsweredOnce : Type 0
EachInputIsAnsweredOnce =
    (task : Task) (input : List ℕ) (first second : Outcome) → CallsFor task input first → CallsFor task input second → AreAlike first second

-- ---- the promises one by one

-- what a call promises, over its words, its source and its sink before and after, and its status
module _ (words : List (List ℕ)) (before after : ReadState) (sink sink_after : WriteState) (status : Status) where
  -- of the input, where the source tells it, and of what was written
  abbrev pub OnWhole : (List ℕ → (List ℕ → Type 0) → Type 0) → Type 0
  OnWhole Says = (input : List ℕ) → before.left ≡ Some input → Says input (ReadsAndWrites after sink sink_after)

  -- of the text of a trial
  abbrev pub OnText : ℕ → (List ℕ → (List ℕ → Type 0) → Type 0) → Type 0
  OnText number Says =
      Says (trial_text number) (λ report. Writes sink sink_after (trial_line number ++ report))

  pub record EachPromise : Type 0 where
    pub explains : IsReported (Judges words before after) sink sink_after status
    pub accepted : (budget : ℕ) → status ≡ Done → AskFor (Check budget) words → OnWhole AcceptsRightly
    pub tried : (number : ℕ) → status ≡ Done → AskForTrial number words → OnText number AcceptsRightly
    pub surveyed : (budget : ℕ) → status ≡ Done → AskFor (Conditions budget) words →
        OnWhole (SurveysRightly budget)
    pub printed : status ≡ Done → AskFor Fmt words → OnWhole PrintsRightly
    pub low : status ≡ Done → AskFor RunLow words → OnWhole (ReplaysRightly lowest)
    pub top : status ≡ Done → AskFor RunTop words → OnWhole (ReplaysRightly topmost)
    pub safe : (budget : ℕ) → status ≡ Done → AskFor (Prove budget) words → OnWhole IsSafeRightly
    pub certified : (at budget : ℕ) → status ≡ Done → AskFor (Make at budget) words →
        OnWhole (CertifiesRightly at budget)
    pub replayed : status ≡ Done → AskFor Replay words → OnWhole RefutesRightly
    pub rejected : status ≡ Rejected →
        ((budget : ℕ) × AskFor (Check budget) words × OnWhole RejectsChecking)
        ⊎ (((number : ℕ) × AskForTrial number words × OnText number RejectsChecking)
        ⊎ ((budget : ℕ) × AskFor (Prove budget) words × OnWhole RejectsProving))
    pub undecided : status ≡ Undecided →
        ((budget : ℕ) × AskFor (Check budget) words × OnWhole (LeavesCheckingOpen budget))
        ⊎ (((number : ℕ) × AskForTrial number words × OnText number (LeavesCheckingOpen usual_budget))
        ⊎ ((budget : ℕ) × AskFor (Prove budget) words × OnWhole (LeavesProvingOpen budget)))
    pub refused : status ≡ Refused →
        ((task : Task) × AskFor task words × ((input : List ℕ) → before.left ≡ Some input →
        (outcome : Outcome) × CallsFor task input outcome × (status_of outcome ≡ Refused)
        × Carries telling after sink sink_after outcome))
        ⊎ ((number : ℕ) × AskForTrial number words
        × ((outcome : Outcome) × TrialCallsFor number outcome × (status_of outcome ≡ Refused)
        × Writes sink sink_after (trial_report number outcome)))
    pub alone : (budget : ℕ) → AskFor (Check budget) words →
        IsAlone (λ rest. codes "accepted" ++ rest) sink sink_after status
    pub tried_alone : (number : ℕ) → AskForTrial number words →
        IsAlone (λ rest. trial_line number ++ (codes "accepted" ++ rest)) sink sink_after status
    pub safe_alone : (budget : ℕ) → AskFor (Prove budget) words →
        IsAlone (λ rest. codes "safe" ++ rest) sink sink_after status
    pub complete : (task : Task) (input : List ℕ) → AskFor task words → before.left ≡ Some input →
        Stayed before.faults after.faults →
        Stayed sink.faults sink_after.faults → Stayed sink.stalls sink_after.stalls →
        AnswersAs task input after sink sink_after status ⊎ (status ≡ Memory)
    pub tried_complete : (number : ℕ) (outcome : Outcome) →
        AskForTrial number words → TrialCallsFor number outcome →
        Stayed sink.faults sink_after.faults → Stayed sink.stalls sink_after.stalls →
        TrialAnswersAs number sink sink_after status outcome ⊎ (status ≡ Memory)

-- so each of them follows from `Promises`
abbrev pub EachPromiseFollows : Type 0
EachPromiseFollows =
    (call : Call) → Promises call →
    EachPromise call.words call.source call.source_after call.sink call.sink_after call.status
