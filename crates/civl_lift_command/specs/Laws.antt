-- What a call promises, one by one.
use Rattle.std.specs.Prelude.{◌≡◌, ℕ, ◌⊎◌, List, ◌++◌, codes, Some}
use Rattle.civl_outside.specs.Count.{Stayed}
use Rattle.civl_frontend.specs.Streams.{ReadState, WriteState, IsReported, ReadsAndWrites, IsAlone}
use Rattle.civl_frontend.specs.Call.{Call}
use Rattle.civl_frontend.specs.Told.{Carries}
use Rattle.civl_frontend.specs.declared.status.Status.{Status}
use Rattle.civl_frontend.specs.declared.status.Status.TheVariants.{Done, Rejected, Undecided, Refused, Memory}
use Rattle.civl_lift_command.specs.Words.{AskToLift}
use Rattle.civl_lift_command.specs.Outcome.{Outcome, CallsFor, status_of, telling}
use Rattle.civl_lift_command.specs.Judge.{Judges}
use Rattle.civl_lift_command.specs.Statuses.{LiftsRightly, RejectsRightly, LeavesLiftOpen, AnswersAs}
use Rattle.civl_lift_command.specs.Promises.{Promises}

-- what a call promises, over its words, its source and its sink before and after, and its status
module _ (words : List (List ℕ)) (before after : ReadState) (sink sink_after : WriteState) (status : Status) where
  -- of the input, where the source tells it, and of what was written
  abbrev pub OnWhole : (List ℕ → (List ℕ → Type 0) → Type 0) → Type 0
  OnWhole Says = (input : List ℕ) → before.left ≡ Some input → Says input (ReadsAndWrites after sink sink_after)

  pub record EachPromise : Type 0 where
    pub explains : IsReported (Judges words before after) sink sink_after status
    pub lifted : status ≡ Done → OnWhole LiftsRightly
    pub rejected : status ≡ Rejected → OnWhole RejectsRightly
    pub undecided : status ≡ Undecided →
        (budget : ℕ) × AskToLift budget words × OnWhole (LeavesLiftOpen budget)
    pub refused : status ≡ Refused →
        (budget : ℕ) × AskToLift budget words × ((input : List ℕ) → before.left ≡ Some input →
        (outcome : Outcome) × CallsFor budget input outcome × (status_of outcome ≡ Refused)
        × Carries telling after sink sink_after outcome)
    pub lifted_alone : IsAlone (λ rest. codes "lifted" ++ rest) sink sink_after status
    pub complete : (budget : ℕ) (input : List ℕ) → AskToLift budget words → before.left ≡ Some input →
        Stayed before.faults after.faults →
        Stayed sink.faults sink_after.faults → Stayed sink.stalls sink_after.stalls →
        AnswersAs budget input after sink sink_after status ⊎ (status ≡ Memory)

-- so each of them follows from `Promises`
abbrev pub EachPromiseFollows : Type 0
EachPromiseFollows =
    (call : Call) → Promises call →
    EachPromise call.words call.source call.source_after call.sink call.sink_after call.status
