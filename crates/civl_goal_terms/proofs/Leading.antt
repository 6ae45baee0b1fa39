-- What a statement of a root does at values: whether it fails, where it leads and what it spawns.
use Rattle.std.specs.Prelude.{slice_get, is_some, if◌then◌else◌}
use Rattle.std.proofs.Common.{◌≡◌, ◌∙◌, ℕ, Bool, true, false, not, ◌&&◌, List, refl, sym, ap, Option, Some, None}
use Rattle.std.proofs.lemmas.Bool.{false≢true, true≢false}
use Rattle.civl_bits.specs.declared.value.Value.{Value}
use Rattle.civl_firing.specs.values.Values.{is_true}
use Rattle.civl_tree.specs.declared.name.Name.{Name}
use Rattle.civl_tree.specs.declared.expr.Expr.{Expr}
use Rattle.civl_tree.specs.declared.stmt.Stmt.{Stmt, out-Stmt}
use Rattle.civl_tree.specs.declared.stmt.Stmt.TheOpen.{Stmt-F, Assign, Assert, If, While, YieldLoop, RankLoop, Call, Yield, Commit, Intro, Spawn}
use Rattle.civl_tree.specs.declared.program.Proc.{Proc}
use Rattle.civl_tree.specs.declared.program.Program.{Program}
use Rattle.civl_tree.specs.rules.Names.{names_in_proc}
use Rattle.civl_outlines.specs.declared.outline.Outline.{Outline}
use Rattle.civl_firing.specs.declared.store.Store.{Store}
use Rattle.civl_firing.specs.Eval.{value_of, values_of}
use Rattle.civl_firing.specs.Scope.{frame_values}
use Rattle.civl_firing.specs.Fired.{gate_holds, choices_fit, guard_holds, store_after, outs_after, fires, fired}
use Rattle.civl_meaning.specs.declared.config.Plain.{Plain}
use Rattle.civl_meaning.specs.declared.config.Activation.{Activation}
use Rattle.civl_meaning.specs.declared.config.Change.{Change}
use Rattle.civl_meaning.specs.declared.config.Change.TheVariants.{Stays, Goes}
use Rattle.civl_meaning.specs.declared.config.Stepped.TheVariants as answer
use Rattle.civl_meaning.specs.Layers.{topmost}
use Rattle.civl_meaning.specs.Meaning.{Meaning, Does, Runs, Missing, called}
use Rattle.civl_meaning.specs.Places.{Spot, skip_layer}
use Rattle.civl_meaning.specs.Change.{with_results, acted, call_doing, statement_doing, spot_doing, proc_doing}
use Rattle.civl_meaning.specs.Change as step
use Rattle.civl_meaning.specs.Failing.{fails_at}
use Rattle.civl_conditions.specs.paths.Paths.{Course}
use Rattle.civl_conditions.specs.Movers.{on_some}
use Rattle.civl_moves.specs.sweeps.Sweeps.{Swept, with_meaning}
use Rattle.civl_moves.proofs.sweeps.Calling.{fired_where}
use Rattle.civl_body.specs.Passing.{course_in}
use Rattle.civl_goals.specs.Outlines.{invariant_holds, note_holds}
use Rattle.civl_goals.specs.Failed.{does, fired_store, led_to, loses_invariant, begins_badly, leads_astray}
use Rattle.civl_goal_terms.specs.declared.places.At.{At}
use Rattle.civl_goal_terms.specs.inner.There.{IsCall}
use Rattle.civl_goal_terms.specs.inner.Told.{frame}
use Rattle.civl_goal_terms.specs.inner.Places.{IsAt, fork_in}
use Rattle.civl_goal_terms.specs.inner.Settings.{Here, frame_at, done_by}
use Rattle.civl_goal_terms.specs.inner.Steps.{begun, moved, swept_by}
use Rattle.civl_goal_terms.specs.inner.Frames.{begins_astray}
use Rattle.civl_goal_terms.specs.inner.Fails.{is_unsafe}

on_where : {A : Type 0} (b : Bool) (x : A) (test : A → Bool) → on_some (if b then Some x else None) test ≡ (b && test x)
on_where true x test = refl
on_where false x test = refl

module _ (program : Program) (at : At) (is : IsAt program at) (here : Here) where
  abbrev plain : Plain
  plain = topmost program

  abbrev own : Activation
  own = frame_at at here

  abbrev course : Course
  course = course_in program program.layers at.proc.now (λ number. here.chosen)

  -- ---- what it does, by its statement

  abbrev change_by : Stmt-F Stmt → Change
  change_by d = step.done_by plain here.store here.chosen (statement_doing plain at.proc.now here.locals at.number at.next d)

  does_is : does program here.store own here.chosen ≡ change_by (out-Stmt at.stmt.now)
  does_is = ap (λ (x : Option Proc). step.done_by plain here.store here.chosen (proc_doing plain None own x)) is.proc ∙ ap (λ (x : Option Spot). step.done_by plain here.store here.chosen (spot_doing plain None own at.proc.now x)) is.spot

  abbrev fails_by : Stmt-F Stmt → Bool
  fails_by d = fails_at plain here.store (statement_doing plain at.proc.now here.locals at.number at.next d)

  fails_is : fails_at plain here.store (proc_doing plain None own (slice_get program.procs at.root)) ≡ fails_by (out-Stmt at.stmt.now)
  fails_is = ap (λ (x : Option Proc). fails_at plain here.store (proc_doing plain None own x)) is.proc ∙ ap (λ (x : Option Spot). fails_at plain here.store (spot_doing plain None own at.proc.now x)) is.spot

  -- ---- whether it fails

  broken_call : (rs : List Name) (m : Meaning) (args : List Value) → (with_meaning course rs m args here.chosen (begun here)).broken ≡ fails_at plain here.store (call_doing (names_in_proc at.proc.now) here.locals rs at.number at.next m args)
  broken_call rs (Does a) args = refl
  broken_call rs (Runs n p) args = refl
  broken_call rs Missing args = refl

  broken_form : (d : Stmt-F Stmt) → (moved course at.number d (begun here)).broken ≡ fails_by d
  broken_form (Assert e) = broken_assert (is_true (value_of (frame_values program.globals at.proc.now here.locals) e))
    where
      broken_assert : (b : Bool) → not b ≡ fails_at plain here.store (if b then step.Goes here.locals at.next else step.Fails)
      broken_assert true = refl
      broken_assert false = refl
  broken_form (Call f es rs) = broken_call rs (called plain f) (values_of (frame_values program.globals at.proc.now here.locals) es)
  broken_form _ = refl

  pub unsafe_is : (swept_by program at here).broken ≡ done_by program at (is_unsafe program at.root) here
  unsafe_is = broken_form (out-Stmt at.stmt.now) ∙ sym fails_is

  -- ---- what fires

  abbrev fired_when : Swept → Option Store
  fired_when s = if s.live then Some s.store else None

  abbrev change_where : Bool → Bool → Bool → Store → List Value → List Name → Change
  change_where gate fit guard store outs rs =
      if gate then (if fit then acted (names_in_proc at.proc.now) here.locals rs at.next (fired_where gate guard store outs) else Stays answer.BadChoices) else Stays answer.Failing

  store_where : (gate fit guard : Bool) (store : Store) (outs : List Value) (rs : List Name) → fired_store (change_where gate fit guard store outs rs) ≡ (if gate && (fit && guard) then Some store else None)
  store_where true true true store outs rs = refl
  store_where true true false store outs rs = refl
  store_where true false guard store outs rs = refl
  store_where false fit guard store outs rs = refl

  fired_call : (rs : List Name) (m : Meaning) (args : List Value) → fired_store (step.done_by plain here.store here.chosen (call_doing (names_in_proc at.proc.now) here.locals rs at.number at.next m args)) ≡ fired_when (with_meaning course rs m args here.chosen (begun here))
  unfolding fired fires
  fired_call rs (Does a) args =
      store_where (gate_holds program.globals here.store a args) (choices_fit a here.chosen) (guard_holds program.globals here.store a args here.chosen) (store_after program.globals here.store a args here.chosen) (outs_after program.globals here.store a args here.chosen) rs
  fired_call rs (Runs n p) args = refl
  fired_call rs Missing args = refl

  fired_form : (d : Stmt-F Stmt) → IsCall d → fired_store (change_by d) ≡ fired_when (moved course at.number d (begun here))
  fired_form (Call f es rs) h = fired_call rs (called plain f) (values_of (frame_values program.globals at.proc.now here.locals) es)
  fired_form _ h = absurd h

  pub fired_is : IsCall (out-Stmt at.stmt.now) → fired_store (does program here.store own here.chosen) ≡ fired_when (swept_by program at here)
  fired_is h = ap fired_store does_is ∙ fired_form (out-Stmt at.stmt.now) h

  pub loses_is : (outline : Outline) → IsCall (out-Stmt at.stmt.now)
      → ((swept_by program at here).live && not (invariant_holds program outline (swept_by program at here).store)) ≡ done_by program at (loses_invariant program outline) here
  loses_is outline h =
      sym (on_where (swept_by program at here).live (swept_by program at here).store (λ after. not (invariant_holds program outline after)))
      ∙ sym (ap (λ (o : Option Store). on_some o (λ after. not (invariant_holds program outline after))) (fired_is h))

  -- ---- where it leads

  abbrev led_when : Swept → Option (Store × Activation)
  led_when s = if s.live then Some (s.store, frame at.root at.next s.locals) else None

  led_where : (gate fit guard : Bool) (store : Store) (outs : List Value) (rs : List Name)
      → led_to here.store own (change_where gate fit guard store outs rs) ≡ (if gate && (fit && guard) then Some (store, frame at.root at.next (with_results (names_in_proc at.proc.now) here.locals rs outs)) else None)
  led_where true true true store outs rs = refl
  led_where true true false store outs rs = refl
  led_where true false guard store outs rs = refl
  led_where false fit guard store outs rs = refl

  led_call : (rs : List Name) (m : Meaning) (args : List Value) → led_to here.store own (step.done_by plain here.store here.chosen (call_doing (names_in_proc at.proc.now) here.locals rs at.number at.next m args)) ≡ led_when (with_meaning course rs m args here.chosen (begun here))
  unfolding fired fires
  led_call rs (Does a) args =
      led_where (gate_holds program.globals here.store a args) (choices_fit a here.chosen) (guard_holds program.globals here.store a args here.chosen) (store_after program.globals here.store a args here.chosen) (outs_after program.globals here.store a args here.chosen) rs
  led_call rs (Runs n p) args = refl
  led_call rs Missing args = refl

  led_assert : (b : Bool) → led_to here.store own (step.done_by plain here.store here.chosen (if b then step.Goes here.locals at.next else step.Fails)) ≡ (if b then Some (here.store, frame at.root at.next here.locals) else None)
  led_assert true = refl
  led_assert false = refl

  led_form : (d : Stmt-F Stmt) → fork_in at.number at.next d ≡ None → skip_layer d ≡ false → led_to here.store own (change_by d) ≡ led_when (moved course at.number d (begun here))
  led_form (Assign x e) h k = refl
  led_form (Assert e) h k = led_assert (is_true (value_of (frame_values program.globals at.proc.now here.locals) e))
  led_form (Call f es rs) h k = led_call rs (called plain f) (values_of (frame_values program.globals at.proc.now here.locals) es)
  led_form (Spawn f es) h k = refl
  led_form (If e a b) h k = absurd (cc)
  led_form (While e a) h k = absurd (cc)
  led_form (YieldLoop e i a) h k = absurd (cc)
  led_form (RankLoop e r i a) h k = absurd (cc)
  led_form (Yield e) h k = absurd (true≢false k)
  led_form Commit h k = absurd (true≢false k)
  led_form (Intro x e) h k = absurd (true≢false k)

  pub leads_is : (outline : Outline) → fork_in at.number at.next (out-Stmt at.stmt.now) ≡ None
      → ((swept_by program at here).live && not (note_holds program outline (swept_by program at here).store (frame at.root at.next (swept_by program at here).locals))) ≡ done_by program at (leads_astray program outline) here
  leads_is outline h =
      let s = swept_by program at here in
      sym (on_where s.live (s.store, frame at.root at.next s.locals) (λ (q : Store × Activation). not (note_holds program outline q.0 q.1)))
      ∙ sym (ap (λ (o : Option (Store × Activation)). on_some o (λ (q : Store × Activation). not (note_holds program outline q.0 q.1))) (ap (led_to here.store own) does_is ∙ led_form (out-Stmt at.stmt.now) h is.plain))

  -- ---- where a branch leads

  abbrev tells : Expr → Bool
  tells e = is_true (value_of (frame_values program.globals at.proc.now here.locals) e)

  abbrev led_by : Option (Expr × (ℕ × ℕ)) → Option (Store × Activation)
  led_by None = None
  led_by (Some f) = Some (here.store, frame at.root (if tells f.0 then f.1.0 else f.1.1) here.locals)

  led_fork : (d : Stmt-F Stmt) → is_some (fork_in at.number at.next d) ≡ true → led_to here.store own (change_by d) ≡ led_by (fork_in at.number at.next d)
  led_fork (If e a b) h = refl
  led_fork (While e a) h = refl
  led_fork (YieldLoop e i a) h = refl
  led_fork (RankLoop e r i a) h = refl
  led_fork _ h = absurd (false≢true h)

  pub forks_is : (outline : Outline) (e : Expr) (to other : ℕ) → fork_in at.number at.next (out-Stmt at.stmt.now) ≡ Some (e, (to, other))
      → not (note_holds program outline here.store (frame at.root (if tells e then to else other) here.locals)) ≡ done_by program at (leads_astray program outline) here
  forks_is outline e to other h =
      let led = ap (led_to here.store own) does_is ∙ led_fork (out-Stmt at.stmt.now) (ap is_some h) ∙ ap led_by h in
      sym (ap (λ (o : Option (Store × Activation)). on_some o (λ (q : Store × Activation). not (note_holds program outline q.0 q.1))) led)

  -- ---- what it spawns

  pub spawns_is : (outline : Outline) (f : Name) (es : List Expr) → out-Stmt at.stmt.now ≡ Spawn f es
      → begins_astray program outline f here.store (values_of (frame_values program.globals at.proc.now here.locals) es) ≡ done_by program at (begins_badly program outline) here
  spawns_is outline f es e = sym (ap (begins_badly program outline here.store own) (does_is ∙ ap change_by e))
