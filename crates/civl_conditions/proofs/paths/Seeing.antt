-- A step does alike in two stores that agree on the globals which the actions that it calls use.
use Rattle.std.proofs.Common.{◌≡◌, ℕ, Bool, true, false, List, Option, Some, None, refl, ap}
use Rattle.std.specs.Prelude.{if◌then◌else◌}
use Rattle.std.proofs.lemmas.Bool.{true≢false, false≢true}
use Rattle.civl_bits.specs.declared.value.Value.{Value}
use Rattle.civl_tree.specs.declared.name.Name.{Name}
use Rattle.civl_tree.specs.declared.program.Global.{Global}
use Rattle.civl_tree.specs.declared.program.Proc.{Proc}
use Rattle.civl_tree.specs.declared.stmt.Stmt.{Stmt}
use Rattle.civl_tree.specs.declared.stmt.Stmt.TheOpen as stmt
use Rattle.civl_tree.specs.rules.Names.{names_in_proc}
use Rattle.civl_firing.specs.declared.store.Store.{Store}
use Rattle.civl_firing.specs.declared.firing.Fired.TheVariants as fire
use Rattle.civl_firing.specs.values.Values.{is_true}
use Rattle.civl_firing.specs.Eval.{value_of, values_of}
use Rattle.civl_firing.specs.Scope.{frame_values}
use Rattle.civl_firing.specs.Fired.{gate_holds, choices_fit, fires, fired_by, fired}
use Rattle.civl_meaning.specs.declared.config.Plain.{Plain}
use Rattle.civl_meaning.specs.declared.config.Stepped.TheVariants as answer
use Rattle.civl_meaning.specs.declared.config.Change.{Change}
use Rattle.civl_meaning.specs.declared.config.Change.TheVariants.{Stays, Goes}
use Rattle.civl_meaning.specs.Meaning.{Meaning, Does, Runs, Missing, called}
use Rattle.civl_meaning.specs.Change.{with_results, acted, done_by, call_doing, statement_doing}
use Rattle.civl_meaning.specs.Change as does
use Rattle.civl_layers.specs.Names.{uses}
use Rattle.civl_conditions.specs.footprints.Agreement.{StoresAgree, names_other, action_uses}
use Rattle.civl_conditions.specs.footprints.Laws.{FireAlike}
use Rattle.civl_conditions.proofs.footprints.Acting.{acts_alike}
use Rattle.civl_conditions.specs.paths.Seen.{ChangesAgree}

module _ (test : Global → Bool) (plain : Plain) where
  -- an action that uses no global but those that pass the test
  abbrev pub MeansSeen : Meaning → Type 0
  MeansSeen (Does action) = action_uses (names_other test plain.program.globals) action ≡ false
  MeansSeen (Runs number proc) = Unit {0}
  MeansSeen Missing = Unit {0}

  -- a call means no other action
  abbrev pub CallSeen : stmt.Stmt-F Stmt → Type 0
  CallSeen (stmt.Call f es rs) = MeansSeen (called plain f)
  CallSeen _ = Unit {0}

  -- and what is introduced uses no other global
  abbrev pub FormSeen : stmt.Stmt-F Stmt → Type 0
  FormSeen (stmt.Call f es rs) = MeansSeen (called plain f)
  FormSeen (stmt.Intro x e) = uses (names_other test plain.program.globals) e ≡ false
  FormSeen _ = Unit {0}

  abbrev Alike : Change → Change → Type 0
  Alike a b = ChangesAgree test plain.program.globals a b

  module _ (names : List Name) (locals : List Value) (results : List Name) (next : ℕ) where
    by_tests : (g h fit : Bool) → g ≡ h → (x y : Option (Store × List Value)) → FireAlike test plain.program.globals x y →
        Alike (if g then (if fit then acted names locals results next (if g then fired_by x else fire.GateFalse) else Stays answer.BadChoices) else Stays answer.Failing)
        (if h then (if fit then acted names locals results next (if h then fired_by y else fire.GateFalse) else Stays answer.BadChoices) else Stays answer.Failing)
    by_tests true true true e (Some x) (Some y) a = (a.0, ap (with_results names locals results) a.1, refl)
    by_tests true true true e None None a = refl
    by_tests true true true e (Some x) None a = absurd a
    by_tests true true true e None (Some y) a = absurd a
    by_tests true true false e x y a = refl
    by_tests true false fit e x y a = absurd (true≢false e)
    by_tests false true fit e x y a = absurd (false≢true e)
    by_tests false false fit e x y a = refl

  module _ (s t : Store) (agree : StoresAgree test plain.program.globals s t) where
    call_alike : (chosen : List Value) (names : List Name) (locals : List Value) (results : List Name) (at next : ℕ) (m : Meaning) (args : List Value) → MeansSeen m →
        Alike (done_by plain s chosen (call_doing names locals results at next m args)) (done_by plain t chosen (call_doing names locals results at next m args))
    unfolding fired
    call_alike chosen names locals results at next (Does action) args seen =
        let gs = plain.program.globals in
        let acts = acts_alike test gs s t action args agree seen in
        by_tests names locals results next (gate_holds gs s action args) (gate_holds gs t action args) (choices_fit action chosen) acts.gate (fires gs s action args chosen) (fires gs t action args chosen) (acts.fired chosen)
    call_alike chosen names locals results at next (Runs number proc) args seen = refl
    call_alike chosen names locals results at next Missing args seen = refl

    assert_alike : (chosen : List Value) (b : Bool) (locals : List Value) (next : ℕ) →
        Alike (done_by plain s chosen (if b then does.Goes locals next else does.Fails)) (done_by plain t chosen (if b then does.Goes locals next else does.Fails))
    assert_alike chosen true locals next = refl
    assert_alike chosen false locals next = refl

    pub step_alike : (chosen : List Value) (proc : Proc) (locals : List Value) (at next : ℕ) (d : stmt.Stmt-F Stmt) → CallSeen d →
        Alike (done_by plain s chosen (statement_doing plain proc locals at next d)) (done_by plain t chosen (statement_doing plain proc locals at next d))
    step_alike chosen proc locals at next (stmt.Call f es rs) seen =
        call_alike chosen (names_in_proc proc) locals rs at next (called plain f) (values_of (frame_values plain.program.globals proc locals) es) seen
    step_alike chosen proc locals at next (stmt.Assert e) seen = assert_alike chosen (is_true (value_of (frame_values plain.program.globals proc locals) e)) locals next
    step_alike chosen proc locals at next _ seen = refl
