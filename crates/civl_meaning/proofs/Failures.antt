-- A thread fails exactly where its step answers Failing.
use Rattle.std.proofs.Common.{ℕ, ◌≡◌, Bool, true, false, not, List, Option, Some, None, refl}
use Rattle.std.specs.Prelude.{if◌then◌else◌}
use Rattle.civl_bits.specs.declared.value.Value.{Value}
use Rattle.civl_tree.specs.declared.name.Name.{Name}
use Rattle.civl_tree.specs.declared.action.Action.{Action}
use Rattle.civl_firing.specs.declared.store.Store.{Store}
use Rattle.civl_meaning.specs.declared.config.Plain.{Plain}
use Rattle.civl_meaning.specs.declared.config.Stepped.TheVariants as answer
use Rattle.civl_firing.specs.declared.firing.Fired.TheVariants as fire
use Rattle.civl_meaning.specs.declared.config.Change.TheVariants.{Stays}
use Rattle.civl_firing.specs.Fired.{gate_holds, choices_fit, fires, fired_by, fired}
use Rattle.civl_meaning.specs.Change.{acted, action_change, Doing, Calls, doing, done_by}
use Rattle.civl_meaning.specs.Failing.{fails_at, answers_failing, FailingIsAnswered}

-- of an action call's tests only the gate makes it fail
by_tests : (gate fit : Bool) (moved : Option (Store × List Value)) (locals : List Value) (names results : List Name) (next : ℕ) →
    answers_failing (if gate then (if fit then acted names locals results next (if gate then fired_by moved else fire.GateFalse) else Stays answer.BadChoices) else Stays answer.Failing) ≡ not gate
by_tests true true (Some p) locals names results next = refl
by_tests true true None locals names results next = refl
by_tests true false moved locals names results next = refl
by_tests false fit moved locals names results next = refl

by_action : (plain : Plain) (s : Store) (ch : List Value) (ns : List Name) (ls : List Value) (rs : List Name) (next : ℕ) (a : Action) (vs : List Value) →
    answers_failing (action_change plain s ch ns ls rs next a vs) ≡ not (gate_holds plain.program.globals s a vs)
unfolding fired
by_action plain s ch ns ls rs next a vs =
    let gs = plain.program.globals in
    by_tests (gate_holds gs s a vs) (choices_fit a ch) (fires gs s a vs ch) ls ns rs next

-- whatever a thread does next
pub failing_is_done : (plain : Plain) (s : Store) (ch : List Value) (d : Doing) → answers_failing (done_by plain s ch d) ≡ fails_at plain s d
failing_is_done plain s ch (Calls ns ls rs next a vs) = by_action plain s ch ns ls rs next a vs
failing_is_done plain s ch _ = refl

pub failing_is_answered : FailingIsAnswered
failing_is_answered plain s ch r = failing_is_done plain s ch (doing plain r)
