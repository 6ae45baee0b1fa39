-- A step's answer has its cause.
use Rattle.std.proofs.Common.{◌≡◌, ℕ, Bool, true, false, List, [], refl, sym, ap, ◌∙◌, subst, Option, None, Some, slice_get}
use Rattle.std.specs.Prelude.{is_none, IsTrue, ⊤, if◌then◌else◌}
use Rattle.std.specs.List.{list_any}
use Rattle.std.proofs.lemmas.Bool.{false≢true, or_parts}
use Rattle.civl_bits.specs.declared.value.Value.{Value}
use Rattle.civl_tree.specs.declared.name.Name.{Name}
use Rattle.civl_tree.specs.declared.action.Action.{Action}
use Rattle.civl_tree.specs.declared.program.Proc.{Proc}
use Rattle.civl_tree.specs.declared.stmt.Stmt.{Stmt, out-Stmt}
use Rattle.civl_tree.specs.declared.stmt.Stmt.TheOpen.{Stmt-F, Assign, Assert, If, While, YieldLoop, RankLoop, Call, Yield, Commit, Intro, Spawn}
use Rattle.civl_tree.specs.rules.Names.{callee_signature, names_in_proc}
use Rattle.civl_tree.specs.rules.Unknown.{place_unknown}
use Rattle.civl_firing.specs.values.Values.{is_true}
use Rattle.civl_firing.specs.declared.store.Store.{Store}
use Rattle.civl_meaning.specs.declared.config.Move.{Move}
use Rattle.civl_meaning.specs.declared.config.Plain.{Plain}
use Rattle.civl_meaning.specs.declared.config.Activation.{Activation}
use Rattle.civl_meaning.specs.declared.config.State.{State}
use Rattle.civl_meaning.specs.declared.config.State.TheVariants.{Before, Inside, After}
use Rattle.civl_meaning.specs.declared.config.Running.{Running}
use Rattle.civl_meaning.specs.declared.config.Config.{Config}
use Rattle.civl_meaning.specs.declared.config.Stepped.{Stepped}
use Rattle.civl_meaning.specs.declared.config.Stepped.TheVariants as answer
use Rattle.civl_firing.specs.declared.firing.Fired.{Fired}
use Rattle.civl_firing.specs.declared.firing.Fired.TheVariants as fire
use Rattle.civl_meaning.specs.declared.config.Change.{Change}
use Rattle.civl_meaning.specs.declared.config.Change.TheVariants.{Stays, Goes, Acts, Enters, Leaves, Spawns}
use Rattle.civl_firing.specs.Eval.{value_of, values_of}
use Rattle.civl_firing.specs.Scope.{frame_values}
use Rattle.civl_firing.specs.Fired.{gate_holds, guard_holds, choices_fit, fires, fired_by, fired}
use Rattle.civl_meaning.specs.Places.{Spot, skip_layer, spot_at}
use Rattle.civl_meaning.specs.Meaning.{Meaning, Does, Runs, Missing, called, meaning_of}
use Rattle.civl_meaning.specs.Change.{acted, action_change, done_by, call_doing, statement_doing, spot_doing, proc_doing, caller_of, state_doing, Doing, doing, change_of}
use Rattle.civl_meaning.specs.Change as does
use Rattle.civl_meaning.specs.Failing.{thread_fails, answers_failing}
use Rattle.civl_meaning.specs.Step.{step_with, step_in}
use Rattle.civl_meaning.specs.Config.{IsPlain, IsOf, StateIsSorted, ThreadIsSorted, HasLocals}
use Rattle.civl_meaning.proofs.Failures.{failing_is_answered}
use Rattle.civl_soundness.specs.Stepped.{called_in, next_action, IsBefore, Cause, AnswersHaveCauses, CausesAreAnswered}
use Rattle.civl_soundness.proofs.Among.{spot_is_among, spot_is_plain}
use Rattle.civl_soundness.proofs.Declared.{IsDeclared, number_declared, called_declared}
use Rattle.civl_soundness.proofs.Changing.{Keeps, statement_keeps}
use Rattle.civl_soundness.proofs.Fitting.{all_at}

-- an assert calls nothing
pub asserts_call_nothing : (locals : List Value) (next : ℕ) (b : Bool) → called_in (if b then does.Goes locals next else does.Fails) ≡ None
asserts_call_nothing locals next true = refl
asserts_call_nothing locals next false = refl

module _ (plain : Plain) (store : Store) (chosen : List Value) where
  -- a thread stands before this call of an action, whose gate holds; the choices fit or don't, and this is so of the guard
  pub record At (next : Option (Action × List Value)) (fits : Bool) (Guard : Action → List Value → Type 0) : Type 0 where
    action : Action
    args : List Value
    is : next ≡ Some (action, args)
    gate : IsTrue (gate_holds plain.program.globals store action args)
    choices : choices_fit action chosen ≡ fits
    guard : Guard action args

  abbrev Shut : Action → List Value → Type 0
  Shut action args = guard_holds plain.program.globals store action args chosen ≡ false

  -- why a change is no step, but for a failure
  abbrev pub Why : Option (Action × List Value) → State → Change → Type 0
  Why next state (Stays answer.Moved) = ⊥
  Why next state (Stays answer.NoThread) = ⊥
  Why next state (Stays answer.Ended) = state ≡ After
  Why next state (Stays answer.Failing) = ⊤
  Why next state (Stays answer.BadChoices) = At next false (λ action args. ⊤)
  Why next state (Stays answer.Blocked) = At next true Shut
  Why next state (Goes locals place) = ⊤
  Why next state (Acts after locals place) = ⊤
  Why next state (Enters frame place) = ⊤
  Why next state (Leaves o) = ⊤
  Why next state (Spawns thread place) = ⊤

  -- what blocks an action is its guard
  fired_blocked : (action : Action) (args : List Value) → fired plain.program.globals store action args chosen ≡ fire.Blocked → guard_holds plain.program.globals store action args chosen ≡ false
  unfolding fired fires
  fired_blocked action args e = by_gate (gate_holds plain.program.globals store action args) (guard_holds plain.program.globals store action args chosen) refl _ e
    where
      by_gate : (a b : Bool) → guard_holds plain.program.globals store action args chosen ≡ b → (p : Store × List Value) → (if a then fired_by (if b then Some p else None) else fire.GateFalse) ≡ fire.Blocked → guard_holds plain.program.globals store action args chosen ≡ false
      by_gate false b q p k = absurd (cc)
      by_gate true true q p k = absurd (cc)
      by_gate true false q p k = q

  action_why : (state : State) (names : List Name) (locals : List Value) (results : List Name) (next : ℕ) (action : Action) (args : List Value) →
      Why (Some (action, args)) state (action_change plain store chosen names locals results next action args)
  action_why state names locals results next action args =
      by_tests (gate_holds plain.program.globals store action args) refl (choices_fit action chosen) refl (fired plain.program.globals store action args chosen) refl
    where
      by_tests : (a : Bool) → gate_holds plain.program.globals store action args ≡ a → (b : Bool) → choices_fit action chosen ≡ b → (f : Fired) → fired plain.program.globals store action args chosen ≡ f →
          Why (Some (action, args)) state (if a then (if b then acted names locals results next f else Stays answer.BadChoices) else Stays answer.Failing)
      by_tests false g b c f e = tt
      by_tests true g false c f e = record { action = action; args = args; is = refl; gate = g; choices = c; guard = tt }
      by_tests true g true c fire.GateFalse e = tt
      by_tests true g true c fire.Blocked e = record { action = action; args = args; is = refl; gate = g; choices = c; guard = fired_blocked action args e }
      by_tests true g true c (fire.Moved after outs) e = tt

  -- the same of what a thread does next
  abbrev WhyDoing : State → Doing → Type 0
  WhyDoing state next = Why (called_in next) state (done_by plain store chosen next)

  call_why : (state : State) (names : List Name) (locals : List Value) (results : List Name) (number next : ℕ) (m : Meaning) (args : List Value) → IsDeclared m → WhyDoing state (call_doing names locals results number next m args)
  call_why state names locals results number next (Does action) args d = action_why state names locals results next action args
  call_why state names locals results number next (Runs n p) args d = tt
  call_why state names locals results number next Missing args d = absurd d

  module _ (ok : IsPlain plain) (below : List Activation) (top : Activation) where
    layer_why : (proc : Proc) (number next : ℕ) (d : Stmt-F Stmt) → Keeps plain.program proc d → skip_layer d ≡ false → WhyDoing (Inside below top) (statement_doing plain proc top.locals number next d)
    layer_why proc number next (Assign x e) k s = tt
    layer_why proc number next (Assert e) k s = by_truth (is_true (value_of (frame_values plain.program.globals proc top.locals) e))
      where
        by_truth : (t : Bool) → WhyDoing (Inside below top) (if t then does.Goes top.locals next else does.Fails)
        by_truth true = tt
        by_truth false = tt
    layer_why proc number next (If e xs ys) k s = tt
    layer_why proc number next (While e xs) k s = tt
    layer_why proc number next (YieldLoop e i xs) k s = tt
    layer_why proc number next (RankLoop e r i xs) k s = tt
    layer_why proc number next (Call f es rs) k s =
        call_why (Inside below top) (names_in_proc proc) top.locals rs number next (called plain f) (values_of (frame_values plain.program.globals proc top.locals) es)
        (called_declared plain ok f (or_parts (is_none (callee_signature plain.program f)) (list_any (place_unknown proc) rs) k.known).0)
    layer_why proc number next (Spawn f es) k s = tt
    layer_why proc number next (Yield e) k s = absurd (false≢true (sym s))
    layer_why proc number next Commit k s = absurd (false≢true (sym s))
    layer_why proc number next (Intro x e) k s = absurd (false≢true (sym s))

    frame_why : HasLocals plain top → WhyDoing (Inside below top) (proc_doing plain (caller_of below) top (slice_get plain.program.procs top.procedure))
    frame_why h =
        subst (λ (o : Option Proc). WhyDoing (Inside below top) (proc_doing plain (caller_of below) top o)) (sym h.there) (by_spot (spot_at h.proc.body top.place) refl)
      where
        by_spot : (o : Option Spot) → spot_at h.proc.body top.place ≡ o → WhyDoing (Inside below top) (spot_doing plain (caller_of below) top h.proc o)
        by_spot None e = tt
        by_spot (Some s) e =
            layer_why h.proc s.number s.next (out-Stmt s.stmt) (statement_keeps plain ok top.procedure h.proc h.there s.stmt (spot_is_among h.proc.body top.place s e)) (spot_is_plain h.proc.body top.place s e)

  state_why : IsPlain plain → (thread : Running) (state : State) → StateIsSorted plain thread state → WhyDoing state (state_doing plain thread state)
  state_why ok thread Before h = call_why Before [] [] [] 0 0 (meaning_of plain thread.callee) thread.args (number_declared plain ok thread.callee h.proc h.there)
  state_why ok thread (Inside below top) h = frame_why ok below top h.2
  state_why ok thread After h = refl

-- ---- the configuration

caused : (plain : Plain) (config : Config) (move : Move) (thread : Running) → slice_get config.threads move.thread ≡ Some thread → (fits : Bool) (Guard : Action → List Value → Type 0) (h : At plain config.store move.choices (next_action plain thread) fits Guard) → IsBefore plain config move h.action h.args
caused plain config move thread at fits Guard h = record { thread = thread; there = at; next = h.is; gate = h.gate }

with_cause : (plain : Plain) (config : Config) (move : Move) (thread : Running) → slice_get config.threads move.thread ≡ Some thread → (c : Change) → Why plain config.store move.choices (next_action plain thread) thread.state c → answers_failing c ≡ thread_fails plain config.store thread →
    Cause plain config move (step_with config move.thread thread c).0
with_cause plain config move thread at (Stays answer.Moved) h f = tt
with_cause plain config move thread at (Stays answer.NoThread) h f = absurd h
with_cause plain config move thread at (Stays answer.Ended) h f = (thread, at, h)
with_cause plain config move thread at (Stays answer.Failing) h f = (thread, at, sym f)
with_cause plain config move thread at (Stays answer.BadChoices) h f = (h.action, h.args, caused plain config move thread at false (λ action args. ⊤) h, h.choices)
with_cause plain config move thread at (Stays answer.Blocked) h f = (h.action, h.args, caused plain config move thread at true (Shut plain config.store move.choices) h, h.choices, h.guard)
with_cause plain config move thread at (Goes locals place) h f = tt
with_cause plain config move thread at (Acts store locals place) h f = tt
with_cause plain config move thread at (Enters frame place) h f = tt
with_cause plain config move thread at (Leaves o) h f = tt
with_cause plain config move thread at (Spawns other place) h f = tt

in_cause : (plain : Plain) → IsPlain plain → (config : Config) (move : Move) → IsOf plain config → (o : Option Running) → slice_get config.threads move.thread ≡ o → Cause plain config move (step_in plain config move o).0
in_cause plain ok config move h None e = e
in_cause plain ok config move h (Some thread) e =
    let sorted = all_at (ThreadIsSorted plain) config.threads move.thread thread e h.sorted in
    with_cause plain config move thread e (change_of plain config.store move.choices thread) (state_why plain config.store move.choices ok thread thread.state sorted) (failing_is_answered plain config.store move.choices thread)

pub answers_have_causes : AnswersHaveCauses
answers_have_causes plain config move ok h = in_cause plain ok config move h (slice_get config.threads move.thread) refl

-- ---- the other way

-- a step of a thread that is there
step_there : (plain : Plain) (config : Config) (move : Move) (thread : Running) → slice_get config.threads move.thread ≡ Some thread → (a : Stepped) → change_of plain config.store move.choices thread ≡ Stays a → (step_in plain config move (slice_get config.threads move.thread)).0 ≡ a
step_there plain config move thread at a e =
    ap (λ (o : Option Running). (step_in plain config move o).0) at ∙ ap (λ (c : Change). (step_with config move.thread thread c).0) e

stays_failing : (c : Change) → answers_failing c ≡ true → c ≡ Stays answer.Failing
stays_failing (Stays answer.Failing) e = refl
stays_failing (Stays answer.Moved) e = absurd (false≢true e)
stays_failing (Stays answer.Blocked) e = absurd (false≢true e)
stays_failing (Stays answer.NoThread) e = absurd (false≢true e)
stays_failing (Stays answer.Ended) e = absurd (false≢true e)
stays_failing (Stays answer.BadChoices) e = absurd (false≢true e)
stays_failing (Goes locals place) e = absurd (false≢true e)
stays_failing (Acts store locals place) e = absurd (false≢true e)
stays_failing (Enters frame place) e = absurd (false≢true e)
stays_failing (Leaves o) e = absurd (false≢true e)
stays_failing (Spawns thread place) e = absurd (false≢true e)

module _ (plain : Plain) (store : Store) (chosen : List Value) (action : Action) (args : List Value) where
  -- a change is that of this call of the action
  record IsCall (c : Change) : Type 0 where
    names : List Name
    locals : List Value
    results : List Name
    next : ℕ
    is : c ≡ action_change plain store chosen names locals results next action args

  abbrev called_action : Option (Action × List Value) → Action
  called_action None = action
  called_action (Some p) = p.0

  abbrev called_args : Option (Action × List Value) → List Value
  called_args None = args
  called_args (Some p) = p.1

  done_is : (next : Doing) → called_in next ≡ Some (action, args) → IsCall (done_by plain store chosen next)
  done_is (does.Calls names locals results next other given) e =
      let p = ap (λ (o : Option (Action × List Value)). called_action o) e in
      let q = ap (λ (o : Option (Action × List Value)). called_args o) e in
      record {
        names = names;
        locals = locals;
        results = results;
        next = next;
        is = ap (λ (x : Action). action_change plain store chosen names locals results next x given) p ∙ ap (action_change plain store chosen names locals results next action) q;
      }
  done_is _ e = absurd (cc)

  misfit : (names : List Name) (locals : List Value) (results : List Name) (next : ℕ) → gate_holds plain.program.globals store action args ≡ true → choices_fit action chosen ≡ false → action_change plain store chosen names locals results next action args ≡ Stays answer.BadChoices
  misfit names locals results next g c = rw (g, c) refl

  shut : (names : List Name) (locals : List Value) (results : List Name) (next : ℕ) → gate_holds plain.program.globals store action args ≡ true → choices_fit action chosen ≡ true → guard_holds plain.program.globals store action args chosen ≡ false →
      action_change plain store chosen names locals results next action args ≡ Stays answer.Blocked
  unfolding fired fires
  shut names locals results next g c h = rw (g, c, h) refl

pub causes_are_answered : CausesAreAnswered
causes_are_answered plain config move answer.Moved n h = absurd (n refl)
causes_are_answered plain config move answer.NoThread n h = ap (λ (o : Option Running). (step_in plain config move o).0) h
causes_are_answered plain config move answer.Ended n h = step_there plain config move h.0 h.1 answer.Ended (ap (λ (x : State). done_by plain config.store move.choices (state_doing plain h.0 x)) h.2)
causes_are_answered plain config move answer.Failing n h =
    step_there plain config move h.0 h.1 answer.Failing (stays_failing (change_of plain config.store move.choices h.0) (failing_is_answered plain config.store move.choices h.0 ∙ h.2))
causes_are_answered plain config move answer.BadChoices n h =
    let c = done_is plain config.store move.choices h.0 h.1 (doing plain h.2.thread) h.2.next in
    step_there plain config move h.2.thread h.2.there answer.BadChoices (c.is ∙ misfit plain config.store move.choices h.0 h.1 c.names c.locals c.results c.next h.2.gate h.3)
causes_are_answered plain config move answer.Blocked n h =
    let c = done_is plain config.store move.choices h.0 h.1 (doing plain h.2.thread) h.2.next in
    step_there plain config move h.2.thread h.2.there answer.Blocked (c.is ∙ shut plain config.store move.choices h.0 h.1 c.names c.locals c.results c.next h.2.gate h.3 h.4)
