-- What each status says where the source tells the bytes still to come and the sink those that it took. Of an input it is said with
-- `Reports`, which says of a text that it was reported.
use Rattle.std.specs.Prelude.{◌≡◌, ℕ, ◌⊎◌, List, ◌++◌, codes, Option, Some}
use Rattle.civl_outside.specs.Count.{Stayed}
use Rattle.civl_cnf.specs.Literal.{Literal}
use Rattle.civl_tree.specs.declared.script.Script.{Script}
use Rattle.civl_firing.specs.declared.store.Store.{Store}
use Rattle.civl_meaning.specs.declared.config.Move.{Move}
use Rattle.civl_meaning.specs.Preserves.{Preserves}
use Rattle.civl_conditions.specs.declared.condition.Condition.{Condition}
use Rattle.civl_conditions.specs.Violated.{Violates}
use Rattle.civl_verdicts.specs.declared.verdict.Counter.{Counter}
use Rattle.civl_verdicts.specs.Verdicts.{IsReached, IsUndecided}
use Rattle.civl_verdicts.specs.verdict_reports.Verdicts.{rejected_text, undecided_text}
use Rattle.civl_frontend.specs.Rules.{IsTaken}
use Rattle.civl_frontend.specs.Streams.{ReadState, WriteState, IsAlone}
use Rattle.civl_frontend.specs.Call.{Call, OnInput}
use Rattle.civl_frontend.specs.Texts.{SpellsScript}
use Rattle.civl_frontend.specs.Told.{Carries, AnswersAs as AnswersAsOf}
use Rattle.civl_frontend.specs.declared.status.Status.{Status}
use Rattle.civl_frontend.specs.declared.status.Status.TheVariants.{Refused, Memory}
use Rattle.civl_lift_command.specs.Words.{AskToLift}
use Rattle.civl_lift_command.specs.Outcome.{Outcome, CallsFor, status_of, telling}
use Rattle.civl_lift_command.specs.Alike.{AreAlike}
use Rattle.civl_lift_command.specs.Lifting.{IsGiven, CanBeLifted, FailsAtTop, LeavesBlock}
use Rattle.civl_lift_command.specs.Report.{lifted_text, spent_text}

-- The input spells exactly one script, whose program breaks no static rule and no formula of which weighs too much.
pub record SpellsTaken (input : List ℕ) (script : Script) : Type 0 where
  pub spells : SpellsScript input script
  pub taken : IsTaken script.program

-- The script that the input spells gives this store and these moves. Its program preserves failures: it has an initial store, and from each
-- initial store from which some interleaving of its lowest program fails, some interleaving of its topmost program fails; and all its
-- conditions hold. The store is initial, and from it the moves run in the lowest program to a failing configuration.
pub record GivesFailure (input : List ℕ) (script : Script) (store : Store) (moves : List Move) : Type 0 where
  pub spells : SpellsScript input script
  pub given : IsGiven script store moves
  pub preserves : Preserves script.program
  pub fails : CanBeLifted script.program store moves

-- That is so, and from the store these moves run in the topmost program to a failing configuration, in which this is the least thread that
-- fails. There are no more of them than were given.
pub record IsRaised (input : List ℕ) (script : Script) (moves : List Move) (thread : ℕ) : Type 0 where
  pub store : Store
  pub given : List Move
  pub failure : GivesFailure input script store given
  pub lifted : FailsAtTop script.program store given moves thread

-- Done: that is so of the input, and the report says it.
abbrev pub LiftsRightly : List ℕ → (List ℕ → Type 0) → Type 0
LiftsRightly input Reports =
    (script : Script) × (moves : List Move) × (thread : ℕ)
    × IsRaised input script moves thread × Reports (lifted_text moves thread)

-- Where what was written grew by a text that begins with `lifted`, the status is Done, or such a report couldn't be written whole.
abbrev pub LiftsAlone : Call → Type 0
LiftsAlone call = IsAlone (λ rest. codes "lifted" ++ rest) call.sink call.sink_after call.status

-- Some store is initial in the program of the script that the input spells. The condition has this place in its list, and each condition
-- before it holds; it doesn't hold itself, since these values violate it, one of the right sort for each of its variables.
pub record Rejects (input : List ℕ) (script : Script) (counter : Counter) : Type 0 where
  pub spelled : SpellsTaken input script
  pub place : ℕ
  pub reached : IsReached script.program counter.condition place
  pub violates : Violates script.program counter.condition counter.values

-- Rejected: that is so of the input, and the report says it.
abbrev pub RejectsRightly : List ℕ → (List ℕ → Type 0) → Type 0
RejectsRightly input Reports =
    (script : Script) × (counter : Counter)
    × Rejects input script counter × Reports (rejected_text script.program counter)

-- The search for an initial store of the program of the script that the input spells, or for values that violate this condition, spent the
-- budget on the clauses of this log, and the formula that it decides is wide. Before a condition some store was found initial, and each
-- condition before it holds.
pub record LeavesOpen (input : List ℕ) (budget : ℕ) (script : Script) (formula : Option Condition) (log : List (List Literal)) : Type 0 where
  pub spelled : SpellsTaken input script
  pub undecided : IsUndecided script.program budget formula log

-- The input gives a failing interleaving of the lowest program of an accepted program. Some moves run from its store in the program below
-- this step between layers to a failing configuration, in which this thread stands late in a block that its next 1,000,000 steps alone, with
-- offered choices, don't end.
pub record LeavesUnended (input : List ℕ) (script : Script) (step thread : ℕ) : Type 0 where
  pub store : Store
  pub given : List Move
  pub failure : GivesFailure input script store given
  pub block : LeavesBlock script.program store given step thread

-- what is found of the input, and its report, where it is left open
abbrev pub LeavesLiftOpen : ℕ → List ℕ → (List ℕ → Type 0) → Type 0
LeavesLiftOpen budget input Reports =
    ((script : Script) × (formula : Option Condition) × (log : List (List Literal))
    × LeavesOpen input budget script formula log
    × Reports (undecided_text script.program formula budget))
    ⊎ ((script : Script) × (step : ℕ) × (thread : ℕ)
    × LeavesUnended input script step thread × Reports (spent_text step thread))

-- Undecided: the words ask for lifting under a budget, that is so of the input, and the report says it.
abbrev pub LeavesOpenRightly : Call → Type 0
LeavesOpenRightly call =
    (budget : ℕ) × AskToLift budget call.words × OnInput call (LeavesLiftOpen budget)

-- Refused: the words ask for lifting, the input calls for a refusal, and the report says which.
abbrev pub RefusesRightly : Call → Type 0
RefusesRightly call =
    (budget : ℕ) × AskToLift budget call.words
    × ((input : List ℕ) → call.source.left ≡ Some input →
    (outcome : Outcome) × CallsFor budget input outcome × (status_of outcome ≡ Refused)
    × Carries telling call.source_after call.sink call.sink_after outcome)

-- the status and the report are those of an outcome for which the input calls, and which is alike each other one for which it does
abbrev pub AnswersAs : ℕ → List ℕ → ReadState → WriteState → WriteState → Status → Type 0
AnswersAs budget input after sink sink_after status = AnswersAsOf telling (CallsFor budget input) AreAlike after sink sink_after status

-- Where the words ask for lifting and nothing failed or stalled, the answer is one that the input calls for, but for want of memory.
abbrev pub IsComplete : Call → Type 0
IsComplete call =
    (budget : ℕ) (input : List ℕ) → AskToLift budget call.words → call.source.left ≡ Some input →
    Stayed call.source.faults call.source_after.faults →
    Stayed call.sink.faults call.sink_after.faults →
    Stayed call.sink.stalls call.sink_after.stalls →
    AnswersAs budget input call.source_after call.sink call.sink_after call.status
    ⊎ (call.status ≡ Memory)
