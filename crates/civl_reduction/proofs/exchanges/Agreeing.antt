-- A step of a plain program is one of its system of threads.
use Rattle.std.proofs.Common.{ℕ, ◌≡◌, Bool, true, false, List, [], Option, Some, None, refl, slice_get, slice_set, ap}
use Rattle.std.specs.Prelude.{if◌then◌else◌, option_map, All}
use Rattle.std.proofs.lemmas.List.{append-nil}
use Rattle.civl_bits.specs.Value.{IsValue}
use Rattle.civl_bits.specs.declared.value.Value.{Value}
use Rattle.civl_tree.specs.declared.name.Name.{Name}
use Rattle.civl_firing.specs.declared.store.Store.{Store}
use Rattle.civl_firing.specs.declared.firing.Fired.TheVariants as fire
use Rattle.civl_meaning.specs.declared.config.Move.{Move}
use Rattle.civl_meaning.specs.declared.config.Plain.{Plain}
use Rattle.civl_meaning.specs.declared.config.Running.{Running}
use Rattle.civl_meaning.specs.declared.config.Config.{Config}
use Rattle.civl_meaning.specs.declared.config.Stepped.TheVariants as answer
use Rattle.civl_meaning.specs.declared.config.Change.TheVariants as change
use Rattle.civl_firing.specs.Fired.{gate_holds, choices_fit, fires, fired_by, fired}
use Rattle.civl_meaning.specs.Change.{with_results, acted, Doing, done_by, doing}
use Rattle.civl_meaning.specs.Step.{thread_after, step_with, step_in, step_of}
use Rattle.civl_meaning.specs.Failing.{fails_at, thread_fails}
use Rattle.civl_meaning.specs.Change as does
use Rattle.civl_reduction.specs.exchanges.Interleavings.{Chosen, Call, whole, as_config, as_move, program_threads, told}
use Rattle.civl_reduction.specs.interleavings.Threads.{Threads, outcome, doing_fails}
use Rattle.civl_reduction.specs.interleavings.Threads as threads

module _ (plain : Plain) (store : Store) (inside : Running → Bool) where
  abbrev pub P : Threads Store Running Call Chosen (List Value)
  P = program_threads plain store inside

  -- no thread is spawned
  quiet : (c : Config) (g : Store) (t : ℕ) (r : Running) → threads.config_with (as_config c) t (g, r, []) ≡ as_config (record { store = g; threads = slice_set c.threads t r })
  quiet c g t r = ap (λ (ts : List Running). as_config (record { store = g; threads = ts })) (append-nil (slice_set c.threads t r))

  by_tests : (c : Config) (t : ℕ) (r : Running) (names : List Name) (locals : List Value) (results : List Name) (next : ℕ) (gate fit : Bool) (moved : Option (Store × List Value)) →
      option_map (threads.config_with (as_config c) t) (if gate then (if fit then threads.fired (λ outs. thread_after r (change.Goes (with_results names locals results outs) next)) moved else None) else None)
      ≡ told (step_with c t r (if gate then (if fit then acted names locals results next (if gate then fired_by moved else fire.GateFalse) else change.Stays answer.BadChoices) else change.Stays answer.Failing))
  by_tests c t r names locals results next true true (Some p) = ap Some (quiet c p.0 t (thread_after r (change.Goes (with_results names locals results p.1) next)))
  by_tests c t r names locals results next true true None = refl
  by_tests c t r names locals results next true false moved = refl
  by_tests c t r names locals results next false fit moved = refl

  by_doing : (c : Config) (t : ℕ) (k : Chosen) (r : Running) (D : Doing) → option_map (threads.config_with (as_config c) t) (outcome P (whole r D) c.store k) ≡ told (step_with c t r (done_by plain c.store k.0 D))
  unfolding fired
  by_doing c t k r does.Fails = refl
  by_doing c t k r does.Waits = refl
  by_doing c t k r does.Ends = refl
  by_doing c t k r (does.Goes locals place) = ap Some (quiet c c.store t (thread_after r (change.Goes locals place)))
  by_doing c t k r (does.Enters frame place) = ap Some (quiet c c.store t (thread_after r (change.Enters frame place)))
  by_doing c t k r (does.Leaves frame) = ap Some (quiet c c.store t (thread_after r (change.Leaves frame)))
  by_doing c t k r (does.Spawns other place) = refl
  by_doing c t k r (does.Calls names locals results next a args) =
      by_tests c t r names locals results next (gate_holds plain.program.globals c.store a args) (choices_fit a k.0) (fires plain.program.globals c.store a args k.0)

  by_thread : (c : Config) (m : Move) (h : All IsValue m.choices) (o : Option Running) → threads.step_in P (as_config c) (as_move m h) o ≡ told (step_in plain c m o)
  by_thread c m h None = refl
  by_thread c m h (Some r) = by_doing c m.thread (m.choices, h) r (doing plain r)

  -- a step of the program is one of the system
  pub steps_agree : (c : Config) (m : Move) (h : All IsValue m.choices) → threads.step_of P (as_config c) (as_move m h) ≡ told (step_of plain c m)
  steps_agree c m h = by_thread c m h (slice_get c.threads m.thread)

  fails_by_doing : (g : Store) (r : Running) (D : Doing) → fails_at plain g D ≡ doing_fails P (whole r D) g
  fails_by_doing g r does.Fails = refl
  fails_by_doing g r does.Waits = refl
  fails_by_doing g r does.Ends = refl
  fails_by_doing g r (does.Goes locals place) = refl
  fails_by_doing g r (does.Enters frame place) = refl
  fails_by_doing g r (does.Leaves frame) = refl
  fails_by_doing g r (does.Spawns other place) = refl
  fails_by_doing g r (does.Calls names locals results next a args) = refl

  -- a thread of the program fails where the system's does
  pub fails_agree : (g : Store) (r : Running) → thread_fails plain g r ≡ doing_fails P (whole r (doing plain r)) g
  fails_agree g r = fails_by_doing g r (doing plain r)
