-- What each status says where the source tells the bytes still to come and the sink those that it took. Of an input it is said with
-- `Reports`, which says of a text that it was reported.
use Rattle.std.specs.Prelude.{◌≡◌, ℕ, ◌+◌, ◌≤◌, ◌⊎◌, List, ◌++◌, length, codes, Option, Some}
use Rattle.civl_outside.specs.Count.{Stayed}
use Rattle.civl_tree.specs.declared.program.Program.{Program}
use Rattle.civl_tree.specs.declared.script.Script.{Script}
use Rattle.civl_meaning.specs.declared.config.Plain.{Plain}
use Rattle.civl_bits.specs.declared.value.Value.{Value}
use Rattle.civl_firing.specs.declared.store.Store.{Store}
use Rattle.civl_meaning.specs.Failing.{CanFail}
use Rattle.civl_meaning.specs.Initial.{IsInitial}
use Rattle.civl_meaning.specs.Layers.{lowest}
use Rattle.civl_meaning.specs.Preserves.{Preserves}
use Rattle.civl_script.specs.declared.replays.trace.Trace.{Trace}
use Rattle.civl_cnf.specs.Literal.{Literal}
use Rattle.civl_cnf.specs.ClauseSet.{ClauseSet}
use Rattle.civl_rup.specs.Rup.{IsUnsatisfiable}
use Rattle.civl_rup.specs.declared.answer.Replay.{Replay as Replay_}
use Rattle.civl_rup.specs.declared.answer.Replay.TheVariants.{Refutes}
use Rattle.civl_proofs.specs.Text.{IsCertificate}
use Rattle.civl_conditions.specs.declared.condition.Condition.{Condition}
use Rattle.civl_conditions.specs.Listed.{conditions}
use Rattle.civl_conditions.specs.Violated.{Violates, AllHold}
use Rattle.civl_verdicts.specs.declared.survey.Survey.{Survey}
use Rattle.civl_verdicts.specs.declared.verdict.Counter.{Counter}
use Rattle.civl_verdicts.specs.Surveys.{IsSurvey}
use Rattle.civl_outlines.specs.declared.outline.Outline.{Outline}
use Rattle.civl_goals.specs.declared.goal.Goal.{Goal}
use Rattle.civl_goals.specs.Listed.{goals}
use Rattle.civl_safety.specs.Outlined.{IsOutlined}
use Rattle.civl_prove.specs.Proved.{GoalFails, goal_formula, IsReached as IsGoalReached}
use Rattle.civl_prove.specs.outline_reports.Proving.{IsReady}
use Rattle.civl_prove.specs.outline_reports.Reports.{safe_text, unproved_text, open_text}
use Rattle.civl_certify.specs.declared.certified.Shown.{Shown as ShownOf}
use Rattle.civl_certify.specs.declared.certified.Shown.TheVariants.{Holds}
use Rattle.civl_certify.specs.declared.certified.Certified.TheVariants.{Answer}
use Rattle.civl_certify.specs.declared.proof_reports.making.Making.TheVariants.{Shown}
use Rattle.civl_certify.specs.declared.proof_reports.replaying.Replaying.TheVariants.{Read}
use Rattle.civl_certify.specs.proof_reports.Making.{IsShownAt}
use Rattle.civl_certify.specs.proof_reports.Replaying.{IsReplay}
use Rattle.civl_certify.specs.proof_reports.Reports.{making_text, replaying_text}
use Rattle.civl_certify.specs.proof_reports.Laws.{StandsAlone}
use Rattle.civl_words.specs.Words.{usual_budget}
use Rattle.civl_verdicts.specs.Verdicts.{HasInitial, IsReached, IsSpentOn, IsUndecided}
use Rattle.civl_verdicts.specs.reports.Lines.{HasLineThatBegins}
use Rattle.civl_verdicts.specs.reports.Findings.{survey_text}
use Rattle.civl_verdicts.specs.verdict_reports.Verdicts.{accepted_text, rejected_text, undecided_text}
use Rattle.civl_frontend.specs.Rules.{IsLawful, IsTaken}
use Rattle.civl_frontend.specs.Texts.{SpellsProgram, SpellsScript, SpellsOutline}
use Rattle.civl_frontend.specs.Streams.{ReadState, WriteState, Writes, IsAlone}
use Rattle.civl_frontend.specs.Call.{Call, OnInput}
use Rattle.civl_frontend.specs.Told.{Carries as CarriesOf, AnswersAs as AnswersAsOf}
use Rattle.civl_frontend.specs.declared.status.Status.{Status}
use Rattle.civl_frontend.specs.declared.status.Status.TheVariants.{Done, Refused, Memory}
use Rattle.civl_command.specs.Tasks.{AskFor, AskForTrial}
use Rattle.civl_command.specs.Outcome.{Outcome, Replayed, RunsBy, FindsBy, CallsFor, TrialCallsFor, certificate_limit, printed_text, trial_text, status_of, telling, trial_report}
use Rattle.civl_command.specs.Alike.{AreAlike}
use Rattle.civl_command.specs.Report.{run_text, trial_line}
use Rattle.civl_command.specs.declared.task.Task.{Task}
use Rattle.civl_command.specs.declared.task.Task.TheVariants.{Check, Prove, Replay}

-- ---- under which words

-- the call is Done and its words ask for this task: this is said of the input, where the source tells it, and of the report
abbrev pub WhenDone : Call → Task → (List ℕ → (List ℕ → Type 0) → Type 0) → Type 0
WhenDone call task Says = call.status ≡ Done → AskFor task call.words → OnInput call Says

-- this is said of the text of a trial, and of the report under the trial's line
abbrev pub OnTrial : Call → ℕ → (List ℕ → (List ℕ → Type 0) → Type 0) → Type 0
OnTrial call number Says =
    Says (trial_text number) (λ report. Writes call.sink call.sink_after (trial_line number ++ report))

-- ---- what is so of an input, and reported

-- The input spells exactly one program, which breaks no static rule and no formula of which weighs too much.
pub record SpellsTaken (input : List ℕ) (program : Program) : Type 0 where
  pub spells : SpellsProgram input program
  pub taken : IsTaken program

-- The program that the input spells preserves failures: it has an initial store, and from each initial store from which some
-- interleaving of its lowest program fails, some interleaving of its topmost program fails. All its conditions hold, and there are so
-- many.
pub record Accepts (input : List ℕ) (program : Program) (count : ℕ) : Type 0 where
  pub spelled : SpellsTaken input program
  pub preserves : Preserves program
  pub hold : AllHold program
  pub count_is : count ≡ length (conditions program)

-- Done under `check`: that is so of the input, and the report says it.
abbrev pub AcceptsRightly : List ℕ → (List ℕ → Type 0) → Type 0
AcceptsRightly input Reports =
    (program : Program) × (count : ℕ) × Accepts input program count × Reports (accepted_text count)

-- Where what was written grew by these lines and a text that begins with `accepted`, the status is Done, or such a report couldn't be
-- written whole.
abbrev pub AcceptsAlone : List ℕ → Call → Type 0
AcceptsAlone lines call =
    IsAlone (λ rest. lines ++ (codes "accepted" ++ rest)) call.sink call.sink_after call.status

-- The input spells exactly one outline, whose program breaks no static rule. The outline fits the program, and neither a formula of the
-- program nor a goal weighs too much.
pub record SpellsReady (input : List ℕ) (outline : Outline) : Type 0 where
  pub spells : SpellsOutline input outline
  pub rules : IsLawful outline.program
  pub ready : IsReady outline.program outline

-- The program of the outline that the input spells is safe: it has an initial store, and from no initial store does some interleaving of
-- its lowest program fail. All its conditions hold, and all goals of the outline, and together there are so many.
pub record IsSafe (input : List ℕ) (outline : Outline) (count : ℕ) : Type 0 where
  pub spelled : SpellsReady input outline
  pub initial : HasInitial outline.program
  pub safe : (store : Store) → IsInitial outline.program store → CanFail (lowest outline.program) store → ⊥
  pub hold : AllHold outline.program
  pub outlined : IsOutlined outline.program outline
  pub count_is : count ≡ length (conditions outline.program) + length (goals outline.program outline)

-- Done under `prove`: that is so of the input, and the report says it.
abbrev pub IsSafeRightly : List ℕ → (List ℕ → Type 0) → Type 0
IsSafeRightly input Reports =
    (outline : Outline) × (count : ℕ) × IsSafe input outline count × Reports (safe_text count)

-- Where what was written grew by a text that begins with `safe`, the status is Done, or such a report couldn't be written whole.
abbrev pub IsSafeAlone : Call → Type 0
IsSafeAlone call = IsAlone (λ rest. codes "safe" ++ rest) call.sink call.sink_after call.status

-- Some store is initial in the program that the input spells. The condition has this place in its list, and each condition before it
-- holds; it doesn't hold itself, since these values violate it, one of the right sort for each of its variables.
pub record Rejects (input : List ℕ) (program : Program) (counter : Counter) : Type 0 where
  pub spelled : SpellsTaken input program
  pub place : ℕ
  pub reached : IsReached program counter.condition place
  pub violates : Violates program counter.condition counter.values

-- Some store is initial in the program of the outline that the input spells. The condition has this place in its list, and each
-- condition before it holds; it doesn't hold itself, since these values violate it, one of the right sort for each of its variables.
pub record RejectsOutlined (input : List ℕ) (outline : Outline) (counter : Counter) : Type 0 where
  pub spelled : SpellsReady input outline
  pub place : ℕ
  pub reached : IsReached outline.program counter.condition place
  pub violates : Violates outline.program counter.condition counter.values

-- The program of the outline that the input spells is accepted: some store is initial, and all its conditions hold.
pub record AcceptsOutlined (input : List ℕ) (outline : Outline) : Type 0 where
  pub spelled : SpellsReady input outline
  pub initial : HasInitial outline.program
  pub hold : AllHold outline.program

-- That is so. The goal has this place in the outline's list, and each goal before it holds; it doesn't hold itself, since these values
-- violate it, one of the right sort for each of its variables.
pub record Unproves (input : List ℕ) (outline : Outline) (goal : Goal) (values : List Value) : Type 0 where
  pub accepted : AcceptsOutlined input outline
  pub place : ℕ
  pub reached : IsGoalReached outline.program outline goal place
  pub fails : GoalFails outline.program outline goal values

-- what is found of the input, and its report, where `check` rejects it
abbrev pub RejectsChecking : List ℕ → (List ℕ → Type 0) → Type 0
RejectsChecking input Reports =
    (program : Program) × (counter : Counter)
    × Rejects input program counter × Reports (rejected_text program counter)

-- where `prove` rejects it: a condition that doesn't hold, or a goal
abbrev pub RejectsProving : List ℕ → (List ℕ → Type 0) → Type 0
RejectsProving input Reports =
    ((outline : Outline) × (counter : Counter) × RejectsOutlined input outline counter
    × Reports (rejected_text outline.program counter))
    ⊎ ((outline : Outline) × (goal : Goal) × (values : List Value)
    × Unproves input outline goal values × Reports (unproved_text outline.program goal values))

-- Rejected: the words ask for `check`, for a trial or for `prove`, that is so of the input or of the trial's text, and the report says it.
abbrev pub RejectsRightly : Call → Type 0
RejectsRightly call =
    ((budget : ℕ) × AskFor (Check budget) call.words × OnInput call RejectsChecking)
    ⊎ (((number : ℕ) × AskForTrial number call.words × OnTrial call number RejectsChecking)
    ⊎ ((budget : ℕ) × AskFor (Prove budget) call.words × OnInput call RejectsProving))

-- The search for an initial store of the program that the input spells, or for values that violate this condition, spent the budget on
-- the clauses of this log, and the formula that it decides is wide. Before a condition some store was found initial, and each condition
-- before it holds.
pub record LeavesOpen (input : List ℕ) (budget : ℕ) (program : Program) (formula : Option Condition) (log : List (List Literal)) : Type 0 where
  pub spelled : SpellsTaken input program
  pub undecided : IsUndecided program budget formula log

-- The same of the program of the outline that the input spells.
pub record LeavesOpenOutlined (input : List ℕ) (budget : ℕ) (outline : Outline) (formula : Option Condition) (log : List (List Literal)) : Type 0 where
  pub spelled : SpellsReady input outline
  pub undecided : IsUndecided outline.program budget formula log

-- The program of the outline that the input spells is accepted, and each goal before this one holds. The search for values that violate
-- it spent the budget on the clauses of this log, and the formula that it decides is wide.
pub record LeavesGoalOpen (input : List ℕ) (budget : ℕ) (outline : Outline) (goal : Goal) (log : List (List Literal)) : Type 0 where
  pub accepted : AcceptsOutlined input outline
  pub place : ℕ
  pub reached : IsGoalReached outline.program outline goal place
  pub spent : IsSpentOn budget (goal_formula outline.program outline goal) log

-- what is found of the input, and its report, where `check` leaves a search open
abbrev pub LeavesCheckingOpen : ℕ → List ℕ → (List ℕ → Type 0) → Type 0
LeavesCheckingOpen budget input Reports =
    (program : Program) × (formula : Option Condition) × (log : List (List Literal))
    × LeavesOpen input budget program formula log × Reports (undecided_text program formula budget)

-- where `prove` leaves something open: a search for `check`, or a goal
abbrev pub LeavesProvingOpen : ℕ → List ℕ → (List ℕ → Type 0) → Type 0
LeavesProvingOpen budget input Reports =
    ((outline : Outline) × (formula : Option Condition) × (log : List (List Literal))
    × LeavesOpenOutlined input budget outline formula log
    × Reports (undecided_text outline.program formula budget))
    ⊎ ((outline : Outline) × (goal : Goal) × (log : List (List Literal))
    × LeavesGoalOpen input budget outline goal log
    × Reports (open_text outline.program goal budget))

-- Undecided: the words ask for `check`, for a trial or for `prove`, that is so of the input under their budget, or of the trial's text
-- under the usual one, and the report says it.
abbrev pub LeavesOpenRightly : Call → Type 0
LeavesOpenRightly call =
    ((budget : ℕ) × AskFor (Check budget) call.words × OnInput call (LeavesCheckingOpen budget))
    ⊎ (((number : ℕ) × AskForTrial number call.words
    × OnTrial call number (LeavesCheckingOpen usual_budget))
    ⊎ ((budget : ℕ) × AskFor (Prove budget) call.words × OnInput call (LeavesProvingOpen budget)))

-- This is found of the conditions of the program that the input spells, under the budget; and no line of the report on it begins with
-- `accepted`.
pub record Tells (input : List ℕ) (budget : ℕ) (program : Program) (survey : Survey) : Type 0 where
  pub spelled : SpellsTaken input program
  pub found : IsSurvey program budget survey
  pub never_accepts : HasLineThatBegins (codes "accepted") (survey_text program budget survey) → ⊥

-- Done under `conditions`: that is so of the input, and the report says it.
abbrev pub SurveysRightly : ℕ → List ℕ → (List ℕ → Type 0) → Type 0
SurveysRightly budget input Reports =
    (program : Program) × (survey : Survey)
    × Tells input budget program survey × Reports (survey_text program budget survey)

-- Done under `fmt`: the input spells exactly one program, and the report is its canonical text.
abbrev pub PrintsRightly : List ℕ → (List ℕ → Type 0) → Type 0
PrintsRightly input Reports =
    (program : Program) × SpellsProgram input program × Reports (printed_text program)

-- The input spells exactly one script, whose program breaks no static rule. Its entries are a store and its steps are moves,
-- and these moves give this trace from that store on the plain program.
pub record Replays (plain_of : Program → Plain) (input : List ℕ) (script : Script) (trace : Trace) : Type 0 where
  pub spells : SpellsScript input script
  pub rules : IsLawful script.program
  pub runs : RunsBy (plain_of script.program) script trace

-- Done under `run`: that is so of the input, and the report tells the trace.
abbrev pub ReplaysRightly : (Program → Plain) → List ℕ → (List ℕ → Type 0) → Type 0
ReplaysRightly plain_of input Reports =
    (script : Script) × (trace : Trace)
    × Replays plain_of input script trace × Reports (run_text script.program trace)

-- Of the program that the input spells, which breaks no static rule and no formula of which weighs too much, this is shown of the
-- condition with the number, where some store is initial or the search for one spent the budget; and where the condition holds, the
-- report is a certificate that stands alone: of clauses that stand for its violation and of a log that is lean for them. If it is no
-- longer than a certificate may be, `proof replay` finds of it that its log refutes its clauses.
pub record Certifies (input : List ℕ) (at budget : ℕ) (program : Program) (condition : Condition) (initial : Option (List (List Literal))) (shown : ShownOf) (report : List ℕ) : Type 0 where
  pub spelled : SpellsTaken input program
  pub found : IsShownAt program budget at condition (Answer initial shown)
  pub alone : (set : ClauseSet) (log : List (List Literal)) → shown ≡ Holds set log → StandsAlone program condition set log report
  pub refutes : (set : ClauseSet) (log : List (List Literal)) → shown ≡ Holds set log → length report ≤ certificate_limit → FindsBy Replay report (Replayed (Read Refutes))

-- Done under `proof make`: that is so of the input, and the report says it.
abbrev pub CertifiesRightly : ℕ → ℕ → List ℕ → (List ℕ → Type 0) → Type 0
CertifiesRightly at budget input Reports =
    (program : Program) × (condition : Condition) × (initial : Option (List (List Literal))) × (shown : ShownOf)
    × Certifies input at budget program condition initial shown (making_text program budget at (Shown condition (Answer initial shown)))
    × Reports (making_text program budget at (Shown condition (Answer initial shown)))

-- The input is a certificate of this clause set and this log, and the replay of the log finds this. Where it finds that the log refutes
-- the clause set, no bits make its clauses true.
pub record IsReplayed (input : List ℕ) (set : ClauseSet) (log : List (List Literal)) (found : Replay_) : Type 0 where
  pub certificate : IsCertificate input set log
  pub replay : IsReplay set log found
  pub sound : found ≡ Refutes → IsUnsatisfiable set.clauses

-- Done under `proof replay`: that is so of the input, and the report says it.
abbrev pub RefutesRightly : List ℕ → (List ℕ → Type 0) → Type 0
RefutesRightly input Reports =
    (set : ClauseSet) × (log : List (List Literal)) × (found : Replay_)
    × IsReplayed input set log found × Reports (replaying_text (Read found))

-- what was written grew by the report of the outcome, and, but for a longer input, the whole was read
abbrev pub Carries : Call → Outcome → Type 0
Carries call outcome = CarriesOf telling call.source_after call.sink call.sink_after outcome

-- the input of a task calls for a refusal, and the report says which
abbrev pub RefusesInput : Call → Task → Type 0
RefusesInput call task =
    (input : List ℕ) → call.source.left ≡ Some input →
    (outcome : Outcome) × CallsFor task input outcome × (status_of outcome ≡ Refused)
    × Carries call outcome

-- the same of the text of a trial
abbrev pub RefusesTrial : Call → ℕ → Type 0
RefusesTrial call number =
    (outcome : Outcome) × TrialCallsFor number outcome × (status_of outcome ≡ Refused)
    × Writes call.sink call.sink_after (trial_report number outcome)

-- Refused: the words ask for a task or for a trial, and that is so of the input or of the trial's text.
abbrev pub RefusesRightly : Call → Type 0
RefusesRightly call =
    ((task : Task) × AskFor task call.words × RefusesInput call task)
    ⊎ ((number : ℕ) × AskForTrial number call.words × RefusesTrial call number)

-- the status and the report are those of an outcome for which the input calls, and which is alike each other one for which it does: the
-- two are verdicts, surveys or findings of an outline or of a condition that don't speak against each other, or they are one
abbrev pub AnswersAs : Task → List ℕ → ReadState → WriteState → WriteState → Status → Type 0
AnswersAs task input after sink sink_after status = AnswersAsOf telling (CallsFor task input) AreAlike after sink sink_after status

-- Where the words ask for a task and nothing failed or stalled, the answer is the one that the input calls for, but for want
-- of memory.
abbrev pub IsComplete : Call → Type 0
IsComplete call =
    (task : Task) (input : List ℕ) → AskFor task call.words → call.source.left ≡ Some input →
    Stayed call.source.faults call.source_after.faults →
    Stayed call.sink.faults call.sink_after.faults →
    Stayed call.sink.stalls call.sink_after.stalls →
    AnswersAs task input call.source_after call.sink call.sink_after call.status
    ⊎ (call.status ≡ Memory)

-- the same of a trial's text
pub record TrialAnswersAs (number : ℕ) (sink sink_after : WriteState) (status : Status) (outcome : Outcome) : Type 0 where
  pub found : Outcome
  pub calls : TrialCallsFor number found
  pub status_is : status ≡ status_of found
  pub alike : AreAlike found outcome
  pub written : Writes sink sink_after (trial_report number found)

-- Where the words ask for a trial and the sink neither failed nor stalled, the answer is the one that its text calls for, but for want
-- of memory.
abbrev pub IsTrialComplete : Call → Type 0
IsTrialComplete call =
    (number : ℕ) (outcome : Outcome) →
    AskForTrial number call.words → TrialCallsFor number outcome →
    Stayed call.sink.faults call.sink_after.faults →
    Stayed call.sink.stalls call.sink_after.stalls →
    TrialAnswersAs number call.sink call.sink_after call.status outcome ⊎ (call.status ≡ Memory)
