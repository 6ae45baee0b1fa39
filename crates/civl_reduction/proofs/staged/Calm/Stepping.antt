-- What a step of a thread leaves: the store, where it calls no action that fires, and the frames of all other threads.
use Rattle.std.proofs.Common.{◌≡◌, ◌≢◌, ℕ, zero, suc, Bool, true, false, List, [], ◌∷◌, ◌++◌, refl, sym, ap, ◌∙◌, subst, Option, None, Some, slice_get, slice_set, inl, inr, ◌⊎◌}
use Rattle.std.specs.Prelude.{if◌then◌else◌}
use Rattle.civl_bits.specs.declared.value.Value.{Value}
use Rattle.civl_firing.specs.values.Values.{is_true}
use Rattle.civl_tree.specs.declared.action.Action.{Action}
use Rattle.civl_tree.specs.declared.name.Name.{Name}
use Rattle.civl_tree.specs.declared.program.Proc.{Proc}
use Rattle.civl_tree.specs.declared.program.Program.{Program}
use Rattle.civl_tree.specs.declared.stmt.Stmt.{Stmt, out-Stmt}
use Rattle.civl_tree.specs.declared.stmt.Stmt.TheOpen as stmt
use Rattle.civl_tree.specs.rules.Names.{names_in_proc}
use Rattle.civl_tree.proofs.Lists.{get_other}
use Rattle.civl_firing.specs.declared.store.Store.{Store}
use Rattle.civl_firing.specs.declared.firing.Fired.{Fired}
use Rattle.civl_firing.specs.declared.firing.Fired.TheVariants as fire
use Rattle.civl_firing.specs.Eval.{value_of, values_of}
use Rattle.civl_firing.specs.Scope.{frame_values}
use Rattle.civl_firing.specs.Fired.{gate_holds, choices_fit, fires, fired, fired_by}
use Rattle.civl_meaning.specs.declared.config.Move.{Move}
use Rattle.civl_meaning.specs.declared.config.Plain.{Plain}
use Rattle.civl_meaning.specs.declared.config.Activation.{Activation}
use Rattle.civl_meaning.specs.declared.config.State.{State}
use Rattle.civl_meaning.specs.declared.config.State.TheVariants.{Before, Inside, After}
use Rattle.civl_meaning.specs.declared.config.Running.{Running}
use Rattle.civl_meaning.specs.declared.config.Config.{Config}
use Rattle.civl_meaning.specs.declared.config.Stepped.{Stepped}
use Rattle.civl_meaning.specs.declared.config.Stepped.TheVariants as answer
use Rattle.civl_meaning.specs.declared.config.Change.{Change}
use Rattle.civl_meaning.specs.declared.config.Change.TheVariants as change
use Rattle.civl_meaning.specs.Places.{Spot, spot_at}
use Rattle.civl_meaning.specs.Meaning.{Meaning, Does, Runs, Missing, called, meaning_of}
use Rattle.civl_meaning.specs.Change.{acted, caller_of, change_of, Doing, done_by, call_doing, statement_doing, spot_doing, proc_doing, state_doing, doing}
use Rattle.civl_meaning.specs.Step.{thread_after, store_with, step_with, step_in, step_of}
use Rattle.civl_meaning.proofs.Safe.{no_thread}
use Rattle.civl_soundness.specs.Stepped.{next_action}
use Rattle.civl_meaning.specs.Change as does
use Rattle.civl_reduction.specs.exchanges.Interleavings.{whole}
use Rattle.civl_reduction.proofs.mover_laws.Configurations.{next_is}
use Rattle.civl_reduction.specs.blocks.Blocks.{frame_of_layer}
use Rattle.civl_reduction.specs.blocks.Cuts.{frame_in, frame_at}

-- ---- the store

-- the thread stands before a call of an action that fires
pub record Fires (plain : Plain) (store : Store) (chosen : List Value) (thread : Running) (after : Store) : Type 0 where
  pub action : Action
  pub args : List Value
  pub outs : List Value
  pub next : next_action plain thread ≡ Some (action, args)
  pub gate : gate_holds plain.program.globals store action args ≡ true
  pub fit : choices_fit action chosen ≡ true
  pub fires : fires plain.program.globals store action args chosen ≡ Some (after, outs)

module _ (plain : Plain) (store : Store) (chosen : List Value) (thread : Running) where
  by_tests : (names : List Name) (locals : List Value) (results : List Name) (next : ℕ) (action : Action) (args : List Value) → doing plain thread ≡ does.Calls names locals results next action args
      → (b : Bool) → gate_holds plain.program.globals store action args ≡ b → (c : Bool) → choices_fit action chosen ≡ c → (o : Option (Store × List Value)) → fires plain.program.globals store action args chosen ≡ o
      → (after : Store) (ls : List Value) (place : ℕ) → (if b then (if c then acted names locals results next (if b then fired_by o else fire.GateFalse) else change.Stays answer.BadChoices) else change.Stays answer.Failing) ≡ change.Acts after ls place
      → Fires plain store chosen thread after
  by_tests names locals results next action args d true g true f (Some p) q after ls place e =
      let same : p.0 ≡ after = ap (store_with store) e in
      record {
        action = action;
        args = args;
        outs = p.1;
        next = next_is plain thread (action, args) _ (ap (whole thread) d);
        gate = g;
        fit = f;
        fires = q ∙ ap (λ (x : Store). Some (x, p.1)) same;
      }
  by_tests names locals results next action args d true g true f None q after ls place e = absurd cc
  by_tests names locals results next action args d true g false f o q after ls place e = absurd cc
  by_tests names locals results next action args d false g c f o q after ls place e = absurd cc

  by_doing : (D : Doing) → doing plain thread ≡ D → (after : Store) (ls : List Value) (place : ℕ) → done_by plain store chosen D ≡ change.Acts after ls place → Fires plain store chosen thread after
  unfolding fired
  by_doing does.Fails d after ls place e = absurd cc
  by_doing does.Waits d after ls place e = absurd cc
  by_doing does.Ends d after ls place e = absurd cc
  by_doing (does.Goes locals next) d after ls place e = absurd cc
  by_doing (does.Enters frame next) d after ls place e = absurd cc
  by_doing (does.Leaves frame) d after ls place e = absurd cc
  by_doing (does.Spawns other next) d after ls place e = absurd cc
  by_doing (does.Calls names locals results next action args) d after ls place e =
      by_tests names locals results next action args d (gate_holds plain.program.globals store action args) refl (choices_fit action chosen) refl (fires plain.program.globals store action args chosen) refl after ls place e

  pub acts_so : (after : Store) (ls : List Value) (place : ℕ) → change_of plain store chosen thread ≡ change.Acts after ls place → Fires plain store chosen thread after
  acts_so after ls place e = by_doing (doing plain thread) refl after ls place e

-- ---- a spawned thread is before its call

spawned_in : Change → State
spawned_in (change.Spawns other place) = other.state
spawned_in _ = Before

-- where something is spawned, it is before its call
abbrev SpawnsBefore : Doing → Type 0
SpawnsBefore (does.Spawns other place) = other.state ≡ Before
SpawnsBefore _ = Unit {0}

module _ (plain : Plain) where
  call_spawns : (ns : List Name) (ls : List Value) (rs : List Name) (at next : ℕ) (m : Meaning) (vs : List Value) → SpawnsBefore (call_doing ns ls rs at next m vs)
  call_spawns ns ls rs at next (Does a) vs = tt
  call_spawns ns ls rs at next (Runs n p) vs = tt
  call_spawns ns ls rs at next Missing vs = tt

  assert_spawns : (b : Bool) (ls : List Value) (next : ℕ) → SpawnsBefore (if b then does.Goes ls next else does.Fails)
  assert_spawns true ls next = tt
  assert_spawns false ls next = tt

  layer_spawns : (p : Proc) (ls : List Value) (at next : ℕ) (d : stmt.Stmt-F Stmt) → SpawnsBefore (statement_doing plain p ls at next d)
  layer_spawns p ls at next (stmt.Assert e) = assert_spawns (is_true (value_of (frame_values plain.program.globals p ls) e)) ls next
  layer_spawns p ls at next (stmt.Call f es rs) = call_spawns (names_in_proc p) ls rs at next (called plain f) (values_of (frame_values plain.program.globals p ls) es)
  layer_spawns p ls at next (stmt.Spawn f es) = refl
  layer_spawns p ls at next _ = tt

  spot_spawns : (k : Option Activation) (f : Activation) (p : Proc) (o : Option Spot) → SpawnsBefore (spot_doing plain k f p o)
  spot_spawns k f p None = tt
  spot_spawns k f p (Some x) = layer_spawns p f.locals x.number x.next (out-Stmt x.stmt)

  proc_spawns : (k : Option Activation) (f : Activation) (o : Option Proc) → SpawnsBefore (proc_doing plain k f o)
  proc_spawns k f None = tt
  proc_spawns k f (Some p) = spot_spawns k f p (spot_at p.body f.place)

  state_spawns : (r : Running) (x : State) → SpawnsBefore (state_doing plain r x)
  state_spawns r After = tt
  state_spawns r Before = call_spawns [] [] [] 0 0 (meaning_of plain r.callee) r.args
  state_spawns r (Inside below f) = proc_spawns (caller_of below) f (slice_get plain.program.procs f.procedure)

  done_spawns : (store : Store) (chosen : List Value) (D : Doing) → SpawnsBefore D → (other : Running) (place : ℕ) → done_by plain store chosen D ≡ change.Spawns other place → other.state ≡ Before
  unfolding spawned_in
  done_spawns store chosen (does.Spawns x y) h other place e = sym (ap spawned_in e) ∙ h
  done_spawns store chosen does.Fails h other place e = absurd cc
  done_spawns store chosen does.Waits h other place e = absurd cc
  done_spawns store chosen does.Ends h other place e = absurd cc
  done_spawns store chosen (does.Goes ls next) h other place e = absurd cc
  done_spawns store chosen (does.Enters frame next) h other place e = absurd cc
  done_spawns store chosen (does.Leaves frame) h other place e = absurd cc
  done_spawns store chosen (does.Calls ns ls rs next action args) h other place e = absurd (acts_no_spawn (gate_holds plain.program.globals store action args) (choices_fit action chosen) (fired plain.program.globals store action args chosen) e)
    where
      acts_no_spawn : (b c : Bool) (x : Fired) → (if b then (if c then acted ns ls rs next x else change.Stays answer.BadChoices) else change.Stays answer.Failing) ≡ change.Spawns other place → ⊥
      acts_no_spawn true true fire.GateFalse k = cc
      acts_no_spawn true true fire.Blocked k = cc
      acts_no_spawn true true (fire.Moved s outs) k = cc
      acts_no_spawn true false x k = cc
      acts_no_spawn false c x k = cc

  pub spawned_before : (store : Store) (chosen : List Value) (thread other : Running) (place : ℕ) → change_of plain store chosen thread ≡ change.Spawns other place → other.state ≡ Before
  spawned_before store chosen thread other place e = done_spawns store chosen (doing plain thread) (state_spawns thread thread.state) other place e

-- ---- the threads

-- with one thread behind them that is before its call, the frames are the same
pub pushed_frame : (program : Program) (step : ℕ) (xs : List Running) (other : Running) (u : ℕ) → other.state ≡ Before → frame_in program step (slice_get (xs ++ other ∷ []) u) ≡ frame_in program step (slice_get xs u)
pushed_frame program step [] other zero e = ap (framed_of program step) e
  where
    framed_of : Program → ℕ → State → Option (Proc × Activation)
    framed_of p k s = frame_of_layer p k (record { callee = other.callee; args = other.args; state = s })
pushed_frame program step [] other (suc u) e = refl
pushed_frame program step (x ∷ xs) other zero e = refl
pushed_frame program step (x ∷ xs) other (suc u) e = pushed_frame program step xs other u e

-- what a step that was made leaves: the store, or an action fired; and the frames of all other threads
pub record Leaves (plain : Plain) (c : Config) (m : Move) (d : Config) : Type 0 where
  pub thread : Running
  pub there : slice_get c.threads m.thread ≡ Some thread
  pub store : (d.store ≡ c.store) ⊎ Fires plain c.store m.choices thread d.store
  pub others : (step u : ℕ) → u ≢ m.thread → frame_at plain.program step d.threads u ≡ frame_at plain.program step c.threads u

pub leaves : (plain : Plain) (c : Config) (m : Move) (d : Config) → step_of plain c m ≡ (answer.Moved, d) → Leaves plain c m d
leaves plain c m d e = by_thread (slice_get c.threads m.thread) refl e
  where
    other_frame : (r : Running) (step u : ℕ) → u ≢ m.thread → frame_at plain.program step (slice_set c.threads m.thread r) u ≡ frame_at plain.program step c.threads u
    other_frame r step u n = ap (frame_in plain.program step) (get_other c.threads m.thread u r n)

    by_change : (r : Running) → slice_get c.threads m.thread ≡ Some r → (g : Change) → change_of plain c.store m.choices r ≡ g → Leaves plain c m (step_with c m.thread r g).1
    by_change r at (change.Goes ls place) q = record { thread = r; there = at; store = inl refl; others = λ step u n. other_frame (thread_after r (change.Goes ls place)) step u n }
    by_change r at (change.Acts after ls place) q =
        record { thread = r; there = at; store = inr (acts_so plain c.store m.choices r after ls place q); others = λ step u n. other_frame (thread_after r (change.Acts after ls place)) step u n }
    by_change r at (change.Enters f place) q = record { thread = r; there = at; store = inl refl; others = λ step u n. other_frame (thread_after r (change.Enters f place)) step u n }
    by_change r at (change.Leaves f) q = record { thread = r; there = at; store = inl refl; others = λ step u n. other_frame (thread_after r (change.Leaves f)) step u n }
    by_change r at (change.Spawns o place) q = record {
      thread = r;
      there = at;
      store = inl refl;
      others = λ step u n.
          pushed_frame plain.program step (slice_set c.threads m.thread (thread_after r (change.Spawns o place))) o u (spawned_before plain c.store m.choices r o place q)
          ∙ other_frame (thread_after r (change.Spawns o place)) step u n;
    }
    by_change r at (change.Stays a) q = record { thread = r; there = at; store = inl refl; others = λ step u n. refl }

    by_thread : (o : Option Running) → slice_get c.threads m.thread ≡ o → step_in plain c m o ≡ (answer.Moved, d) → Leaves plain c m d
    by_thread None at h = absurd (no_thread (ap (λ (s : Stepped × Config). s.0) h))
    by_thread (Some r) at h =
        subst (λ (s : Stepped × Config). Leaves plain c m s.1) h (by_change r at (change_of plain c.store m.choices r) refl)
