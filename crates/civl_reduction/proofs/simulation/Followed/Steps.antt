-- A step of a layer's program as a system of threads: what the thread does, and what comes of it.
use Rattle.std.proofs.Common.{◌≡◌, ℕ, Bool, true, false, List, [], ◌∷◌, refl, sym, ap, ◌∙◌, Option, None, Some, slice_get}
use Rattle.std.specs.Prelude.{if◌then◌else◌, option_map}
use Rattle.std.proofs.lemmas.Option.{none-some, same_Some}
use Rattle.civl_bits.specs.declared.value.Value.{Value}
use Rattle.civl_tree.specs.declared.name.Name.{Name}
use Rattle.civl_tree.specs.declared.action.Action.{Action}
use Rattle.civl_firing.specs.declared.store.Store.{Store}
use Rattle.civl_firing.specs.Fired.{gate_holds, choices_fit, fires}
use Rattle.civl_meaning.specs.declared.config.Plain.{Plain}
use Rattle.civl_meaning.specs.declared.config.Running.{Running}
use Rattle.civl_meaning.specs.declared.config.Change.TheVariants as change
use Rattle.civl_meaning.specs.Change.{with_results, Doing, doing}
use Rattle.civl_meaning.specs.Step.{thread_after}
use Rattle.civl_reduction.specs.interleavings.Threads.{Config, Move, Outcome, fired, outcome, config_with, step_in, step_of}
use Rattle.civl_meaning.specs.Change as does
use Rattle.civl_reduction.specs.exchanges.Interleavings.{Chosen, whole, program_threads}

-- the thread that moved, and its outcome
pub record Made (plain : Plain) (store : Store) (inside : Running → Bool) (c : Config Store Running) (m : Move Chosen) (d : Config Store Running) : Type 0 where
  pub thread : Running
  pub there : slice_get c.threads m.thread ≡ Some thread
  pub to : Outcome Store Running
  pub comes : outcome (program_threads plain store inside) (whole thread (doing plain thread)) c.store m.chosen ≡ Some to
  pub is : d ≡ config_with c m.thread to

pub made : (plain : Plain) (store : Store) (inside : Running → Bool) (c : Config Store Running) (m : Move Chosen) (d : Config Store Running) → step_of (program_threads plain store inside) c m ≡ Some d → Made plain store inside c m d
made plain store inside c m d e = go (slice_get c.threads m.thread) refl e
  where
    by_outcome : (r : Running) → slice_get c.threads m.thread ≡ Some r → (o : Option (Outcome Store Running)) → outcome (program_threads plain store inside) (whole r (doing plain r)) c.store m.chosen ≡ o → option_map (config_with c m.thread) o ≡ Some d → Made plain store inside c m d
    by_outcome r at None q h = absurd (none-some d h)
    by_outcome r at (Some z) q h = record { thread = r; there = at; to = z; comes = q; is = sym (same_Some (config_with c m.thread z) d h) }

    go : (o : Option Running) → slice_get c.threads m.thread ≡ o → step_in (program_threads plain store inside) c m o ≡ Some d → Made plain store inside c m d
    go None at h = absurd (none-some d h)
    go (Some r) at h = by_outcome r at (outcome (program_threads plain store inside) (whole r (doing plain r)) c.store m.chosen) refl h

-- and back
pub makes : (plain : Plain) (store : Store) (inside : Running → Bool) (c : Config Store Running) (m : Move Chosen) (r : Running) (z : Outcome Store Running) → slice_get c.threads m.thread ≡ Some r
    → outcome (program_threads plain store inside) (whole r (doing plain r)) c.store m.chosen ≡ Some z → step_of (program_threads plain store inside) c m ≡ Some (config_with c m.thread z)
makes plain store inside c m r z at e = ap (step_in (program_threads plain store inside) c m) at ∙ ap (option_map (config_with c m.thread)) e

-- what an action did, with its outputs
pub record Fires (plain : Plain) (store : Store) (k : Chosen) (action : Action) (args : List Value) : Type 0 where
  pub gate : gate_holds plain.program.globals store action args ≡ true
  pub fit : choices_fit action k.0 ≡ true
  pub to : Store
  pub outs : List Value
  pub fires : fires plain.program.globals store action args k.0 ≡ Some (to, outs)

-- what comes of what a thread does
abbrev pub Comes : Plain → Running → Doing → Store → Chosen → Outcome Store Running → Type 0
Comes plain r (does.Goes locals place) g k z = z ≡ (g, thread_after r (change.Goes locals place), [])
Comes plain r (does.Enters frame place) g k z = z ≡ (g, thread_after r (change.Enters frame place), [])
Comes plain r (does.Leaves frame) g k z = z ≡ (g, thread_after r (change.Leaves frame), [])
Comes plain r (does.Spawns other place) g k z = z ≡ (g, thread_after r (change.Spawns other place), other ∷ [])
Comes plain r (does.Calls names locals results next action args) g k z = (f : Fires plain g k action args) × (z ≡ (f.to, thread_after r (change.Goes (with_results names locals results f.outs) next), []))
Comes plain r does.Fails g k z = ⊥
Comes plain r does.Waits g k z = ⊥
Comes plain r does.Ends g k z = ⊥

module _ (plain : Plain) (store : Store) (inside : Running → Bool) (r : Running) (g : Store) (k : Chosen) (z : Outcome Store Running) where
  by_tests : (names : List Name) (locals : List Value) (results : List Name) (next : ℕ) (action : Action) (args : List Value) (b c : Bool) → gate_holds plain.program.globals g action args ≡ b → choices_fit action k.0 ≡ c
      → (o : Option (Store × List Value)) → fires plain.program.globals g action args k.0 ≡ o
      → (if b then (if c then fired (λ outs. thread_after r (change.Goes (with_results names locals results outs) next)) o else None) else None) ≡ Some z → Comes plain r (does.Calls names locals results next action args) g k z
  by_tests names locals results next action args true true p q (Some x) f e =
      (record { gate = p; fit = q; to = x.0; outs = x.1; fires = f }, sym (same_Some (x.0, thread_after r (change.Goes (with_results names locals results x.1) next), []) z e))
  by_tests names locals results next action args true true p q None f e = absurd (none-some z e)
  by_tests names locals results next action args true false p q o f e = absurd (none-some z e)
  by_tests names locals results next action args false c p q o f e = absurd (none-some z e)

  pub comes_so : (D : Doing) → outcome (program_threads plain store inside) (whole r D) g k ≡ Some z → Comes plain r D g k z
  comes_so (does.Goes locals place) e = sym (same_Some _ z e)
  comes_so (does.Enters frame place) e = sym (same_Some _ z e)
  comes_so (does.Leaves frame) e = sym (same_Some _ z e)
  comes_so (does.Spawns other place) e = sym (same_Some _ z e)
  comes_so (does.Calls names locals results next action args) e =
      by_tests names locals results next action args (gate_holds plain.program.globals g action args) (choices_fit action k.0) refl refl (fires plain.program.globals g action args k.0) refl e
  comes_so does.Fails e = none-some z e
  comes_so does.Waits e = none-some z e
  comes_so does.Ends e = none-some z e

-- a call of an action that fires
pub calls_so : (plain : Plain) (store : Store) (inside : Running → Bool) (r : Running) (g : Store) (k : Chosen) (names : List Name) (locals : List Value) (results : List Name) (next : ℕ) (action : Action) (args : List Value) (f : Fires plain g k action args)
    → outcome (program_threads plain store inside) (whole r (does.Calls names locals results next action args)) g k ≡ Some (f.to, thread_after r (change.Goes (with_results names locals results f.outs) next), [])
calls_so plain store inside r g k names locals results next action args f =
    ap (λ (b : Bool). if b then (if choices_fit action k.0 then fired back (fires plain.program.globals g action args k.0) else None) else None) f.gate
    ∙ (ap (λ (b : Bool). if b then fired back (fires plain.program.globals g action args k.0) else None) f.fit
    ∙ ap (fired back) f.fires)
  where
    back : List Value → Running
    back outs = thread_after r (change.Goes (with_results names locals results outs) next)
