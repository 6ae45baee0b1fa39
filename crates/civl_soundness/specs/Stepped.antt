-- Why a step of a configuration has its answer (progress, the other half of type soundness; Wright and Felleisen, 1994):
-- a thread that hasn't ended takes its step, unless a gate or an assert is false, the move's choices don't fit an action,
-- or the action's guard is false. The answers are those of gated atomic actions (Hawblitzel, Petrank, Qadeer, Tasiran,
-- CAV 2015).
use Rattle.std.specs.Prelude.{◌≡◌, ◌≢◌, false, List, Option, None, Some, slice_get, IsTrue, ⊤}
use Rattle.civl_bits.specs.declared.value.Value.{Value}
use Rattle.civl_tree.specs.declared.action.Action.{Action}
use Rattle.civl_meaning.specs.declared.config.Move.{Move}
use Rattle.civl_meaning.specs.declared.config.Plain.{Plain}
use Rattle.civl_meaning.specs.declared.config.State.TheVariants.{After}
use Rattle.civl_meaning.specs.declared.config.Running.{Running}
use Rattle.civl_meaning.specs.declared.config.Config.{Config}
use Rattle.civl_meaning.specs.declared.config.Stepped.{Stepped}
use Rattle.civl_meaning.specs.declared.config.Stepped.TheVariants as answer
use Rattle.civl_firing.specs.Fired.{gate_holds, guard_holds, choices_fit}
use Rattle.civl_meaning.specs.Change.{Doing, Calls, doing}
use Rattle.civl_meaning.specs.Failing.{thread_fails}
use Rattle.civl_meaning.specs.Step.{step_of}
use Rattle.civl_meaning.specs.Config.{IsPlain, IsOf}

-- ---- the action before whose call a thread stands, with the values of the call's arguments

abbrev pub called_in : Doing → Option (Action × List Value)
called_in (Calls names locals results next action args) = Some (action, args)
called_in _ = None

abbrev pub next_action : Plain → Running → Option (Action × List Value)
next_action plain thread = called_in (doing plain thread)

-- ---- causes

-- the thread that is to move stands before a call of this action with these arguments, and the gate holds
pub record IsBefore (plain : Plain) (config : Config) (move : Move) (action : Action) (args : List Value) : Type 0 where
  pub thread : Running
  pub there : slice_get config.threads move.thread ≡ Some thread
  pub next : next_action plain thread ≡ Some (action, args)
  pub gate : IsTrue (gate_holds plain.program.globals config.store action args)

-- why a step has this answer
abbrev pub Cause : Plain → Config → Move → Stepped → Type 0
Cause plain config move answer.Moved = ⊤
-- there is no such thread
Cause plain config move answer.NoThread = slice_get config.threads move.thread ≡ None
-- it has no statement left
Cause plain config move answer.Ended = (thread : Running) × (slice_get config.threads move.thread ≡ Some thread) × (thread.state ≡ After)
-- it stands before an action call with a false gate, or before a false assert
Cause plain config move answer.Failing = (thread : Running) × (slice_get config.threads move.thread ≡ Some thread) × IsTrue (thread_fails plain config.store thread)
-- the choices don't have the number and the sorts of the action's
Cause plain config move answer.BadChoices = (action : Action) × (args : List Value) × IsBefore plain config move action args × (choices_fit action move.choices ≡ false)
-- they do, and with them the guard is false
Cause plain config move answer.Blocked =
    (action : Action) × (args : List Value) × IsBefore plain config move action args × IsTrue (choices_fit action move.choices)
    × (guard_holds plain.program.globals config.store action args move.choices ≡ false)

-- in a configuration of a program that keeps the static rules, a step's answer has its cause, whatever the choices
abbrev pub AnswersHaveCauses : Type 0
AnswersHaveCauses = (plain : Plain) (config : Config) (move : Move) → IsPlain plain → IsOf plain config → Cause plain config move (step_of plain config move).0

-- and where a step other than a made one has a cause, that is the answer; so it has one cause at most
abbrev pub CausesAreAnswered : Type 0
CausesAreAnswered = (plain : Plain) (config : Config) (move : Move) (why : Stepped) → why ≢ answer.Moved → Cause plain config move why → (step_of plain config move).0 ≡ why
