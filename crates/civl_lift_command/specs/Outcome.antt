-- What the bytes of an input call for: the status and the report that they deserve.
use Rattle.std.specs.Prelude.{◌≡◌, ℕ, ⊤, List, Option, Some}
use Rattle.civl_tree.specs.declared.program.Program.{Program}
use Rattle.civl_tree.specs.declared.refusal.Refusal.{Refusal}
use Rattle.civl_tree.specs.declared.script.Script.{Script}
use Rattle.civl_firing.specs.declared.store.Store.{Store}
use Rattle.civl_meaning.specs.declared.config.Move.{Move}
use Rattle.civl_meaning.specs.Initial.{IsInitial}
use Rattle.civl_meaning.specs.Layers.{lowest}
use Rattle.civl_script.specs.replays.Trace.{trace_of}
use Rattle.civl_script.specs.Schedules.{IsSchedule}
use Rattle.civl_script.specs.declared.schedule.Schedule.TheVariants.{Wrong}
use Rattle.civl_conditions.specs.declared.condition.Condition.{Condition}
use Rattle.civl_conditions.specs.Weights.{heavy}
use Rattle.civl_verdicts.specs.declared.verdict.Verdict.{Verdict}
use Rattle.civl_verdicts.specs.declared.verdict.Verdict.TheVariants as verdict
use Rattle.civl_verdicts.specs.Verdicts.{IsVerdict}
use Rattle.civl_verdicts.specs.reports.Findings.{heavy_text}
use Rattle.civl_verdicts.specs.verdict_reports.Verdicts.{verdict_text}
use Rattle.civl_lifting.specs.Lifted.{FailsBy}
use Rattle.civl_frontend.specs.Report.{too_long_text, fault_text, refusal_text, misfit_text}
use Rattle.civl_frontend.specs.Rules.{static_refusal, IsLawful, IsTaken}
use Rattle.civl_frontend.specs.Status.{verdict_status}
use Rattle.civl_frontend.specs.Texts.{IsScriptReading, limit}
use Rattle.civl_frontend.specs.Told.{Telling, Finds, CallsFor as CallsForOf}
use Rattle.civl_frontend.specs.declared.reader.Fault.{Fault}
use Rattle.civl_frontend.specs.declared.status.Status.{Status}
use Rattle.civl_frontend.specs.declared.status.Status.TheVariants.{Done, Undecided, Refused}
use Rattle.civl_lift_command.specs.Lifting.{IsAccepted, IsGiven, CanBeLifted, FailsAtTop, LeavesBlock}
use Rattle.civl_lift_command.specs.Report.{not_initial_text, not_failing_text, lifted_text, spent_text}

-- what an input calls for: it is longer than it may be, which is so many bytes; it is no script, with the first fault; its program breaks a
-- static rule, with the first; a formula of its program weighs too much, with the first; under a budget its program has this verdict, which
-- isn't that of acceptance; its store or its moves don't fit, with the number of the first that doesn't; its store isn't initial; its moves
-- don't run in the lowest program to a failing configuration, with the number of those that are made; they are lifted to these moves of the
-- topmost program, at whose end this is the least thread that fails; or at a step between layers a block of this thread isn't ended
pub data Outcome : Type 0 where
  TooLong : ℕ → Outcome
  Unread : Fault → Outcome
  Broken : Refusal → Outcome
  Heavy : Program → Option Condition → Outcome
  Judged : Program → ℕ → Verdict → Outcome
  Misfit : ℕ → Outcome
  NotInitial : Outcome
  NotFailing : ℕ → Outcome
  Lifted : List Move → ℕ → Outcome
  Spent : ℕ → ℕ → Outcome

-- ---- the status and the report

-- the status that an outcome has
abbrev pub status_of : Outcome → Status
status_of (TooLong most) = Refused
status_of (Unread fault) = Refused
status_of (Broken refusal) = Refused
status_of (Heavy program first) = Refused
status_of (Judged program budget verdict) = verdict_status verdict
status_of (Misfit number) = Refused
status_of NotInitial = Refused
status_of (NotFailing moved) = Refused
status_of (Lifted moves thread) = Done
status_of (Spent step thread) = Undecided

-- the report that an outcome has
abbrev pub report_of : Outcome → List ℕ
report_of (TooLong most) = too_long_text most
report_of (Unread fault) = fault_text fault
report_of (Broken refusal) = refusal_text refusal
report_of (Heavy program first) = heavy_text program first
report_of (Judged program budget verdict) = verdict_text program budget verdict
report_of (Misfit number) = misfit_text number
report_of NotInitial = not_initial_text
report_of (NotFailing moved) = not_failing_text moved
report_of (Lifted moves thread) = lifted_text moves thread
report_of (Spent step thread) = spent_text step thread

-- how they are told
abbrev pub telling : Telling Outcome
telling = record { status = status_of; report = report_of; too_long = TooLong; unread = Unread }

-- ---- what is found of a script

-- of a store and moves, where the program is accepted
abbrev pub Raises : Program → Store → List Move → Outcome → Type 0
Raises program store given NotInitial = IsInitial program store → ⊥
Raises program store given (NotFailing moved) =
    IsInitial program store × (FailsBy (lowest program) store given → ⊥) × (moved ≡ (trace_of (lowest program) store given).moved)
Raises program store given (Lifted moves thread) = CanBeLifted program store given × FailsAtTop program store given moves thread
Raises program store given (Spent step thread) = CanBeLifted program store given × LeavesBlock program store given step thread
Raises program store given _ = ⊥

-- of the store and the moves that the script gives, where its program is accepted
pub record RaisesGiven (script : Script) (outcome : Outcome) : Type 0 where
  pub store : Store
  pub moves : List Move
  pub given : IsGiven script store moves
  pub raises : Raises script.program store moves outcome

-- the verdict isn't that of acceptance
abbrev pub IsNotAccepted : Verdict → Type 0
IsNotAccepted (verdict.Accepted count) = ⊥
IsNotAccepted _ = ⊤

-- of a script, under a budget
abbrev pub Lifts : ℕ → Script → Outcome → Type 0
Lifts budget script (Broken refusal) = static_refusal script.program ≡ Some refusal
Lifts budget script (Heavy weighed first) = (weighed ≡ script.program) × IsLawful script.program × (heavy script.program ≡ Some first)
Lifts budget script (Judged judged told verdict) =
    (judged ≡ script.program) × (told ≡ budget) × IsTaken script.program × IsVerdict script.program budget verdict × IsNotAccepted verdict
Lifts budget script (Misfit number) = IsAccepted script.program × IsSchedule script.program.globals script.store script.moves (Wrong number)
Lifts budget script NotInitial = RaisesGiven script NotInitial
Lifts budget script (NotFailing moved) = RaisesGiven script (NotFailing moved)
Lifts budget script (Lifted moves thread) = RaisesGiven script (Lifted moves thread)
Lifts budget script (Spent step thread) = RaisesGiven script (Spent step thread)
Lifts budget script _ = ⊥

-- ---- what an input calls for

-- of an input that may be read
abbrev pub FindsBy : ℕ → List ℕ → Outcome → Type 0
FindsBy budget input outcome = Finds telling IsScriptReading (Lifts budget) input outcome

-- under a budget the input calls for this outcome
abbrev pub CallsFor : ℕ → List ℕ → Outcome → Type 0
CallsFor budget input outcome = CallsForOf telling limit (FindsBy budget) input outcome
