-- Changes whose values have their sorts, and threads after them.
use Rattle.std.proofs.Common.{◌≡◌, ℕ, zero, suc, ◌-◌, List, [], ◌∷◌, length, subst, None, Some, slice_get, slice_set}
use Rattle.std.specs.Prelude.{All}
use Rattle.std.proofs.lemmas.List.Elements.{All-nil, All-head, All-tail, All-set, All-push, All-take}
use Rattle.civl_bits.specs.declared.value.Value.{Value}
use Rattle.civl_tree.specs.declared.program.Proc.{Proc}
use Rattle.civl_firing.specs.values.Values.{HaveSorts}
use Rattle.civl_meaning.specs.declared.config.Plain.{Plain}
use Rattle.civl_meaning.specs.declared.config.Activation.{Activation}
use Rattle.civl_meaning.specs.declared.config.State.{State}
use Rattle.civl_meaning.specs.declared.config.State.TheVariants.{Before, Inside, After}
use Rattle.civl_meaning.specs.declared.config.Running.{Running}
use Rattle.civl_meaning.specs.declared.config.Config.{Config}
use Rattle.civl_meaning.specs.declared.config.Change.{Change}
use Rattle.civl_meaning.specs.declared.config.Change.TheVariants.{Stays, Goes, Acts, Enters, Leaves, Spawns}
use Rattle.civl_firing.specs.Stores.{IsStore}
use Rattle.civl_meaning.specs.Step.{thread_after, state_after, step_with}
use Rattle.civl_meaning.specs.Config.{frame_sorts, HasLocals, IsBegun, StateIsSorted, ThreadIsSorted}

pub all_at : {A : Type 0} (P : A → Type 0) (xs : List A) (i : ℕ) (x : A) → slice_get xs i ≡ Some x → All P xs → P x
all_at P [] i x e a = absurd (cc)
all_at P (y ∷ ys) zero x e a = let q : y ≡ x = cc in subst P q (All-head P y ys a)
all_at P (y ∷ ys) (suc i) x e a = all_at P ys i x e (All-tail P y ys a)

-- these locals have the sorts of the topmost frame's procedure
abbrev pub LocalsFit : Plain → State → List Value → Type 0
LocalsFit plain Before locals = Unit {0}
LocalsFit plain (Inside below top) locals = (proc : Proc) × (slice_get plain.program.procs top.procedure ≡ Some proc) × HaveSorts locals (frame_sorts proc)
LocalsFit plain After locals = Unit {0}

-- all values of a change have their sorts
abbrev pub Fits : Plain → State → Change → Type 0
Fits plain state (Stays a) = Unit {0}
Fits plain state (Goes locals place) = LocalsFit plain state locals
Fits plain state (Acts store locals place) = IsStore plain.program.globals store × LocalsFit plain state locals
Fits plain state (Enters frame place) = HasLocals plain frame
Fits plain state (Leaves None) = Unit {0}
Fits plain state (Leaves (Some frame)) = HasLocals plain frame
Fits plain state (Spawns thread place) = ThreadIsSorted plain thread

module _ (plain : Plain) where
  -- a thread in another state
  abbrev pub in_state : Running → State → Running
  in_state thread state = record { callee = thread.callee; args = thread.args; state = state }

  begun_in : (thread : Running) (state : State) → IsBegun plain thread → IsBegun plain (in_state thread state)
  begun_in thread state h = record { proc = h.proc; there = h.there; args = h.args; begins = h.begins }

  has_locals : (below : List Activation) (top : Activation) (locals : List Value) (place : ℕ) → LocalsFit plain (Inside below top) locals → HasLocals plain (record { procedure = top.procedure; place = place; locals = locals })
  has_locals below top locals place h = record { proc = h.0; there = h.1; locals = h.2 }

  moved : (top : Activation) (place : ℕ) → HasLocals plain top → HasLocals plain (record { procedure = top.procedure; place = place; locals = top.locals })
  moved top place h = record { proc = h.proc; there = h.there; locals = h.locals }

  -- a thread after such a change
  pub after_fits : (thread : Running) (state new : State) (change : Change) → StateIsSorted plain thread state → Fits plain state change → StateIsSorted plain (in_state thread new) (state_after state change)
  after_fits thread Before new (Stays a) h f = begun_in thread new h
  after_fits thread Before new (Goes locals place) h f = tt
  after_fits thread Before new (Acts store locals place) h f = tt
  after_fits thread Before new (Enters frame place) h f = (begun_in thread new h, All-nil (HasLocals plain), f)
  after_fits thread Before new (Leaves o) h f = tt
  after_fits thread Before new (Spawns other place) h f = tt
  after_fits thread (Inside below top) new (Stays a) h f = (begun_in thread new h.0, h.1, h.2)
  after_fits thread (Inside below top) new (Goes locals place) h f = (begun_in thread new h.0, h.1, has_locals below top locals place f)
  after_fits thread (Inside below top) new (Acts store locals place) h f = (begun_in thread new h.0, h.1, has_locals below top locals place f.1)
  after_fits thread (Inside below top) new (Enters frame place) h f = (begun_in thread new h.0, All-push (HasLocals plain) below _ h.1 (moved top place h.2), f)
  after_fits thread (Inside below top) new (Leaves None) h f = tt
  after_fits thread (Inside below top) new (Leaves (Some frame)) h f = (begun_in thread new h.0, All-take (HasLocals plain) (length below - 1) below h.1, f)
  after_fits thread (Inside below top) new (Spawns other place) h f = (begun_in thread new h.0, h.1, moved top place h.2)
  after_fits thread After new (Stays a) h f = tt
  after_fits thread After new (Goes locals place) h f = tt
  after_fits thread After new (Acts store locals place) h f = tt
  after_fits thread After new (Enters frame place) h f = tt
  after_fits thread After new (Leaves o) h f = tt
  after_fits thread After new (Spawns other place) h f = tt

  -- what a change makes of a configuration
  abbrev pub Sorted : Config → Type 0
  Sorted config = IsStore plain.program.globals config.store × All (ThreadIsSorted plain) config.threads

  pub config_fits : (config : Config) (t : ℕ) (thread : Running) (change : Change) → Sorted config → ThreadIsSorted plain thread → Fits plain thread.state change → Sorted (step_with config t thread change).1
  config_fits config t thread change h k f = by_change change f (after_fits thread thread.state (state_after thread.state change) change k f)
    where
      by_change : (c : Change) → Fits plain thread.state c → ThreadIsSorted plain (thread_after thread c) → Sorted (step_with config t thread c).1
      by_change (Stays a) g l = h
      by_change (Goes locals place) g l = (h.0, All-set (ThreadIsSorted plain) config.threads t (thread_after thread (Goes locals place)) l h.1)
      by_change (Acts store locals place) g l = (g.0, All-set (ThreadIsSorted plain) config.threads t (thread_after thread (Acts store locals place)) l h.1)
      by_change (Enters frame place) g l = (h.0, All-set (ThreadIsSorted plain) config.threads t (thread_after thread (Enters frame place)) l h.1)
      by_change (Leaves o) g l = (h.0, All-set (ThreadIsSorted plain) config.threads t (thread_after thread (Leaves o)) l h.1)
      by_change (Spawns other place) g l =
          (h.0, All-push (ThreadIsSorted plain) (slice_set config.threads t (thread_after thread (Spawns other place))) other (All-set (ThreadIsSorted plain) config.threads t (thread_after thread (Spawns other place)) l h.1) g)
