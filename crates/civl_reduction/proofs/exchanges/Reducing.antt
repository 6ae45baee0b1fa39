-- The reduction of a plain program, from what is asked of its actions, of where its threads stand, of its configurations,
-- and of blocks that stand together.
use Rattle.std.proofs.Common.{ℕ, ◌≡◌, Bool, true, false, List, [], ◌∷◌, Some, slice_get, ap, sym, ◌∙◌}
use Rattle.std.specs.Prelude.{All}
use Rattle.std.proofs.lemmas.List.Elements.{All-head, All-tail, All-nil, All-cons}
use Rattle.civl_tree.proofs.Lists.{any_place}
use Rattle.civl_bits.specs.declared.value.Value.{Value}
use Rattle.civl_firing.specs.declared.store.Store.{Store}
use Rattle.civl_meaning.specs.declared.config.Move.{Move}
use Rattle.civl_meaning.specs.declared.config.Plain.{Plain}
use Rattle.civl_meaning.specs.declared.config.Running.{Running}
use Rattle.civl_meaning.specs.declared.config.Config.{Config}
use Rattle.civl_meaning.specs.Step.{start}
use Rattle.civl_meaning.specs.Run.{RunsTo}
use Rattle.civl_meaning.specs.Failing.{thread_fails, is_failing, IsMove, CanFail}
use Rattle.civl_reduction.specs.exchanges.Interleavings.{Chosen, Call, as_config, as_move, told}
use Rattle.civl_reduction.proofs.exchanges.Agreeing.{P, steps_agree, fails_agree}
use Rattle.civl_reduction.proofs.exchanges.Exchanging.{config_of, steps_back, fails_back}
use Rattle.civl_reduction.specs.interleavings.Systems.{Failing}
use Rattle.civl_reduction.specs.interleavings.Reduction.{Place, Late, Within}
use Rattle.civl_reduction.specs.interleavings.Runs as runs
use Rattle.civl_reduction.specs.interleavings.Threads.{Movers, Phases, Parted, stepping_of, system_of, fails_in, place_in}
use Rattle.civl_reduction.specs.interleavings.Threads as threads
use Rattle.civl_reduction.proofs.interleavings.Threading.{threads_are_reducible}
use Rattle.civl_reduction.proofs.interleavings.Reducing.{reduced}

module _ (plain : Plain) (store : Store) (inside : Running → Bool) where
  abbrev pub Q : threads.Threads Store Running Call Chosen (List Value)
  Q = P plain store inside

  runs_agree : (moves : List Move) (c d : Config) → All IsMove moves → RunsTo plain moves c d → (ms : List (threads.Move Chosen)) × runs.SystemRuns (stepping_of Q) ms (as_config c) (as_config d)
  runs_agree [] c d h r = ([], ap as_config r)
  runs_agree (m ∷ moves) c d h r =
      let first : IsMove m = All-head IsMove m moves h in
      let rest = runs_agree moves r.0 d (All-tail IsMove m moves h) r.2 in
      let step : threads.step_of Q (as_config c) (as_move m first) ≡ Some (as_config r.0) = steps_agree plain store inside c m first ∙ ap told r.1 in
      (as_move m first ∷ rest.0, (as_config r.0, step, rest.1))

  failing_agree : (c : Config) → is_failing plain c ≡ true → Failing (stepping_of Q) (as_config c)
  failing_agree c e =
      let r = any_place (thread_fails plain c.store) c.threads e in
      (r.0, ap (fails_in Q c.store) r.2 ∙ (sym (fails_agree plain store inside c.store r.1) ∙ r.3))

  pub can_fail : CanFail plain store → runs.SystemCanFail (stepping_of Q)
  can_fail f =
      let r = runs_agree f.0 (start plain store) f.1 f.2 f.3 in
      (r.0, as_config f.1, r.1, failing_agree f.1 f.4)

  -- and back: a run of the system is one of the program, by moves whose choices are values
  move_of : threads.Move Chosen → Move
  move_of m = record { thread = m.thread; choices = m.chosen.0 }

  runs_back : (ms : List (threads.Move Chosen)) (c d : Config) → runs.SystemRuns (stepping_of Q) ms (as_config c) (as_config d) → (moves : List Move) × All IsMove moves × RunsTo plain moves c d
  unfolding move_of
  runs_back [] c d r = ([], All-nil IsMove, ap config_of r)
  runs_back (m ∷ ms) c d r =
      let rest = runs_back ms (config_of r.0) d r.2 in
      (move_of m ∷ rest.0, All-cons IsMove (move_of m) rest.0 m.chosen.1 rest.1, (config_of r.0, steps_back plain store inside c (move_of m) m.chosen.1 r.0 r.1, rest.2))

  -- where a run of the system ends failing, one of the program does
  pub can_fail_back : runs.SystemCanFail (stepping_of Q) → CanFail plain store
  can_fail_back f =
      let r = runs_back f.0 (start plain store) (config_of f.1) f.2 in
      (r.0, config_of f.1, r.1, r.2, fails_back plain store inside (config_of f.1) f.3)

  -- the reduction of a plain program
  pub program_reduces : (stands : Running → Place) (Right Left : Call → Type 0) (Met : Store → Call → Type 0) (Apart : Store → Call → Call → Type 0) (Holds : threads.Config Store Running → Type 0)
      → Movers Store Running Call Chosen (List Value) Q Right Left Met Apart
      → Phases Store Running Call Chosen (List Value) Q stands Right Left Holds
      → Parted Store Running Call Chosen (List Value) Q Met Apart Holds
      → (challenged : List (threads.Move Chosen) → Bool)
      → ((ms : List (threads.Move Chosen)) (t : ℕ) (c : threads.Config Store Running) → runs.Staged (system_of Q challenged) ms (Some t) c → fails_in Q c.store (slice_get c.threads t) ≡ false)
      → ((ms : List (threads.Move Chosen)) (t : ℕ) (c : threads.Config Store Running)
      → runs.Staged (system_of Q challenged) ms (Some t) c → place_in stands c t ≡ Late → (n : ℕ) × Within (system_of Q challenged) (place_in stands) t n c)
      → CanFail plain store → runs.BlocksFail (system_of Q challenged)
  program_reduces stands Right Left Met Apart Holds movers phases parted challenged safe ends f =
      reduced (system_of Q challenged) (place_in stands) Holds (threads_are_reducible Q stands Right Left Met Apart Holds movers phases parted challenged safe ends) (can_fail f)
